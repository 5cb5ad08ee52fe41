-- `lookups::refused` meets its contract: the refusal is the one that the failure is.
use mathlib.Core.Path.{refl}
use Rattle.lookups.proofs.refused.Goals as goal

pub returns : goal.returns
returns c = rw c.of.ensures refl
