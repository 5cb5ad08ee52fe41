-- `templates::exceeds` meets its contract: it is the definition's test.
use mathlib.Core.Path.{refl}
use Rattle.template_writing.specs.Writing.{exceeds}
use Rattle.template_writing.proofs.exceeds.Goals as goal

pub returns : goal.returns
unfolding exceeds
returns c = refl
