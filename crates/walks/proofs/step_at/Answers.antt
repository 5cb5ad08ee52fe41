-- `walks::step_at` meets its contract: what is judged at the place is the step, and a record ends in the file.
use Rattle.std.specs.Prelude.{Some}
use mathlib.Core.Path.{sym, ap, ◌∙◌}
use native.Mathlib.Omega.{arith}
use Rattle.walks.specs.Walk.{stays, stepped}
use Rattle.walks.proofs.Judgements.{at-end, step-there, record-ends}
use Rattle.walks.proofs.step_at.Goals as goal

pub returns-then-file-place : goal.returns-then-file-place
returns-then-file-place c = let a = c.args in c.stay.ensures ∙ at-end a.file.now a.place (omega arith)

pub overflow_add-result : goal.overflow_add-result
overflow_add-result c =
    let a = c.args in
    omega (arith, record-ends a.file.now a.place (omega arith) c.verdict_at-verdict.ensures c.in-Ok.is)

pub returns-in-Ok : goal.returns-in-Ok
unfolding stepped
returns-in-Ok c =
    let a = c.args in
    sym (ap (stepped a.place) c.in-Ok.is) ∙ step-there a.file.now a.place (omega arith) c.verdict_at-verdict.ensures

pub returns-in-Err : goal.returns-in-Err
unfolding stepped
returns-in-Err c =
    let a = c.args in
    c.stay-in-Err.ensures ∙ ap (λ v. stays (Some v) a.place) c.in-Err.is ∙ sym (ap (stepped a.place) c.in-Err.is) ∙ step-there a.file.now a.place (omega arith) c.verdict_at-verdict.ensures
