-- `description_judging::has_x_and_y` meets its contract: it is the definition.
use mathlib.Core.Path.{refl}
use Rattle.descriptions.specs.Description.{includes_xy}
use Rattle.description_judging.proofs.has_x_and_y.Goals as goal

pub returns : goal.returns
unfolding includes_xy
returns c = refl
