-- `costs::place_of` meets its contract: the place by `refusals`, or 0.
use mathlib.Core.Path.{sym, ap, ◌∙◌}
use Rattle.costs.specs.Handed.{handed_place, handed_where}
use Rattle.costs.proofs.place_of.Goals as goal

pub returns-in-Some : goal.returns-in-Some
unfolding handed_place
returns-in-Some c = sym (ap handed_where (sym c.place-place.ensures ∙ c.in-Some.is))

pub returns-in-None : goal.returns-in-None
unfolding handed_place
returns-in-None c = sym (ap handed_where (sym c.place-place.ensures ∙ c.in-None.is))
