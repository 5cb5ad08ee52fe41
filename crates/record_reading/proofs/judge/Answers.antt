-- `record_reading::judge` meets its contract: where the identifier and the version are there, what is judged behind them.
use Rattle.std.specs.Prelude.{Err}
use mathlib.Core.Path.{sym, ap, ◌∙◌}
use Rattle.record_reading.specs.Verdict.{unjudged}
use Rattle.record_reading.proofs.Verdicts.{unidentified}
use Rattle.record_reading.proofs.judge.Goals as goal

pub returns-in-Ok : goal.returns-in-Ok
returns-in-Ok c = c.judge_behind.ensures (sym c.end-identified.ensures ∙ c.in-Ok.is)

pub returns-in-Err : goal.returns-in-Err
returns-in-Err c =
    c.unjudged.ensures ∙ ap (λ r. unjudged (Err r)) c.of.ensures ∙ unidentified _ (sym c.end-identified.ensures ∙ c.in-Err.is)
