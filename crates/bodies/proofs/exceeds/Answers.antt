-- `bodies::exceeds` meets its contract: the code is the definition.
use mathlib.Core.Path.{refl}
use Rattle.bodies.specs.Reading.{exceeds}
use Rattle.bodies.proofs.exceeds.Goals as goal

pub returns : goal.returns
unfolding exceeds
returns c = refl
