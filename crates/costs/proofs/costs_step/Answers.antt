-- `costs::costs_step` meets its contract: the step of `walks`, variant by variant.
use Rattle.std.specs.Prelude.{◌≡◌, Some, Ok, Err}
use borrow.Author.Rules.{rules}
use mathlib.Core.Path.{sym, ap, ◌∙◌}
use Rattle.costs.specs.Handed.{handed_found, handed_step}
use Rattle.costs.proofs.costs_step.Goals as goal

pub returns-in-Some-Ok : goal.returns-in-Some-Ok
unfolding handed_step
returns-in-Some-Ok c =
    let s = c.step_at-step in
    let over : s.result.found ≡ Some (Ok c.in-Some-Ok.extent) = search rules in
    ap (handed_found s.result.next) (sym over) ∙ ap handed_step s.ensures

pub returns-in-None : goal.returns-in-None
unfolding handed_step
returns-in-None c =
    let s = c.step_at-step in
    ap (handed_found s.result.next) (sym c.in-None.is) ∙ ap handed_step s.ensures

pub returns-in-Some-Err : goal.returns-in-Some-Err
unfolding handed_step
returns-in-Some-Err c =
    let s = c.step_at-step in
    let why : s.result.found ≡ Some (Err c.in-Some-Err.refusal) = search rules in
    rw (c.number.ensures, c.place_of.ensures)
    (ap (handed_found s.result.next) (sym why) ∙ ap handed_step s.ensures)
