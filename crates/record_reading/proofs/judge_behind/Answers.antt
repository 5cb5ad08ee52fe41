-- `record_reading::judge_behind` meets its contract: the description is read once; what lies behind it is found by the flags that come with it.
use Rattle.std.specs.Prelude.{Err}
use mathlib.Core.Path.{sym, ap, ◌∙◌}
use native.Mathlib.Omega.{arith}
use Rattle.record_reading.specs.Verdict.{unjudged}
use Rattle.record_reading.proofs.Verdicts.{judged-record, judged-refused, verdict-failed, undescribed-layout}
use Rattle.record_reading.proofs.judge_behind.Goals as goal

pub returns-in-Ok-extent_behind : goal.returns-in-Ok-extent_behind
returns-in-Ok-extent_behind c place =
    let h = sym c.read.ensures ∙ c.in-Ok.is in
    judged-record _ place h (sym c.in-Ok-extent_behind.is ∙ c.extent_behind.ensures _ place h)

pub returns-in-Err-extent_behind : goal.returns-in-Err-extent_behind
returns-in-Err-extent_behind c place =
    c.unjudged.ensures ∙ judged-refused _ (sym c.in-Err-extent_behind.is ∙ c.extent_behind.ensures _ place (sym c.read.ensures ∙ c.in-Ok.is))

pub returns-in-Err : goal.returns-in-Err
returns-in-Err c place =
    c.unjudged-in-Err.ensures
    ∙ ap (λ f. unjudged (Err f)) c.of.ensures
    ∙ judged-refused _ (verdict-failed _ _ (omega arith) (undescribed-layout _ place (sym c.read.ensures ∙ c.in-Err.is)))
