-- `costs::costs_read_template` meets its contract: the answer of `templates`, variant by variant.
use mathlib.Core.Path.{sym, ap, ◌∙◌}
use Rattle.costs.specs.Handed.{handed_stage, handed_read_template, handed_channel}
use Rattle.costs.proofs.costs_read_template.Goals as goal

pub returns-in-Ok : goal.returns-in-Ok
unfolding handed_read_template handed_channel
returns-in-Ok c =
    let t = c.read-judged in
    rw c.said_of-said.ensures
    (ap (handed_stage _ t.result.template) (sym c.in-Ok.is) ∙ ap (handed_read_template _) t.ensures)

pub returns-in-Err : goal.returns-in-Err
unfolding handed_read_template handed_channel
returns-in-Err c =
    let t = c.read-judged in
    rw (c.number.ensures, c.place_of.ensures, c.said_of-said.ensures)
    (ap (handed_stage _ t.result.template) (sym c.in-Err.is) ∙ ap (handed_read_template _) t.ensures)
