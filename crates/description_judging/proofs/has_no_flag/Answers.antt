-- `description_judging::has_no_flag` meets its contract: it is the definition.
use mathlib.Core.Path.{refl}
use Rattle.descriptions.specs.Description.{flagless}
use Rattle.description_judging.proofs.has_no_flag.Goals as goal

pub returns : goal.returns
unfolding flagless
returns c = refl
