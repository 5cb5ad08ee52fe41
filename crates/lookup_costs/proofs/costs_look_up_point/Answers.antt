-- `lookup_costs::costs_look_up_point` meets its contract: one of the sixteen places that `lookups` has.
use mathlib.Core.Path.{ap, ◌∙◌}
use mir.ValLaws.{to_z-of_z}
use mir.Syntax.{w32}
use Rattle.lookup_costs.specs.Handed.{handed_point}
use borrow.Author.Rules.{rules}
use Rattle.lookup_costs.proofs.costs_look_up_point.Goals as goal

pub returns : goal.returns
unfolding handed_point
returns c =
    rw (to_z-of_z w32 c.told.result (search rules)) (c.told.ensures ∙ ap (handed_point _) c.point-places.ensures)
