-- `costs::costs_judge` meets its contract: the answer of `records`, variant by variant.
use mathlib.Core.Path.{sym, ap, ap₂, ◌∙◌}
use Rattle.costs.specs.Handed.{handed_verdict, handed_judgement, handed_channel}
use Rattle.costs.proofs.costs_judge.Goals as goal

pub returns-in-Ok : goal.returns-in-Ok
unfolding handed_judgement handed_channel
returns-in-Ok c =
    ap₂ handed_verdict c.said_of-said.ensures (sym c.in-Ok.is) ∙ ap (handed_judgement _) c.judge-judged.ensures

pub returns-in-Err : goal.returns-in-Err
unfolding handed_judgement handed_channel
returns-in-Err c =
    rw (c.number.ensures, c.place_of.ensures)
    (ap₂ handed_verdict c.said_of-said.ensures (sym c.in-Err.is) ∙ ap (handed_judgement _) c.judge-judged.ensures)
