-- `costs::costs_point` meets its contract: one of the sixteen places that `records` has.
use mathlib.Core.Path.{ap, ◌∙◌}
use Rattle.costs.specs.Handed.{handed_point}
use Rattle.costs.proofs.costs_point.Goals as goal

pub returns : goal.returns
unfolding handed_point
returns c = c.seat_of.ensures ∙ ap (handed_point _) c.point-places.ensures
