-- `channels::width` meets its contract: by the format.
use mathlib.Core.Path.{refl}
use native.Mathlib.Omega.{arith}
use Rattle.channels.proofs.width.Goals as goal

pub returns-in-Full : goal.returns-in-Full
returns-in-Full c = rw c.in-Full.is (refl, omega arith)

pub returns-in-Compact : goal.returns-in-Compact
returns-in-Compact c = rw c.in-Compact.is (refl, omega arith)
