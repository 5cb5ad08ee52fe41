-- `record_reading::judge_whole` meets its contract: what may follow a record is looked at once the front is judged.
use mathlib.Core.Path.{◌∙◌}
use Rattle.record_reading.proofs.Whole.{left_over, all_of, stays-refused}
use Rattle.record_reading.proofs.judge_whole.Goals as goal

pub returns-in_default : goal.returns-in_default
returns-in_default c = stays-refused _ _ _ c.judge-front.ensures c.in_default.is

pub returns-then-length-bytes : goal.returns-then-length-bytes
returns-then-length-bytes c =
    c.unjudged.ensures ∙ left_over _ _ _ c.judge-front.ensures c.in-Ok.is c.if-length-bytes.true

pub returns : goal.returns
returns c = all_of _ _ _ c.judge-front.ensures c.in-Ok.is c.if-length-bytes.false
