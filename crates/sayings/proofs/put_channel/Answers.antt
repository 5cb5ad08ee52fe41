-- `sayings::put_channel` puts nothing for a channel that is not included.
use mathlib.Core.Path.{◌≡◌, ap}
use mathlib.Core.Bool.{not}
use Prim.Native.Nat.{ℕ}
use native.Mathlib.Omega.{arith}
use Rattle.sayings.proofs.put_channel.Goals as goal

pub returns : goal.returns
returns c = λ e. absurd (let z : ◌≡◌ {A = ℕ} 0 1 = cc (ap not e) in omega arith)
