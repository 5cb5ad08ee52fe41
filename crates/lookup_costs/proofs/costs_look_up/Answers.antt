-- `lookup_costs::costs_look_up` meets its contract: the lookup's own answer, variant by variant.
use mathlib.Core.Path.{sym, ap, ◌∙◌}
use Rattle.lookup_costs.specs.Handed.{handed_pointed, handed_lookup}
use Rattle.lookup_costs.proofs.costs_look_up.Goals as goal

pub returns-in-Ok : goal.returns-in-Ok
unfolding handed_lookup
returns-in-Ok c =
    let l = c.look_up-lookup in
    ap (handed_pointed l.result.looked) (sym c.in-Ok.is) ∙ ap handed_lookup l.ensures.0

pub returns-in-Err : goal.returns-in-Err
unfolding handed_lookup
returns-in-Err c =
    let v = c in
    let l = v.look_up-lookup in
    rw c.number.ensures (ap (handed_pointed l.result.looked) (sym v.in-Err.is) ∙ ap handed_lookup l.ensures.0)
