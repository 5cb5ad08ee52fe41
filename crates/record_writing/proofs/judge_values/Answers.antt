-- `record_writing::judge_values` meets its contract: each test of the code is a stage of the definition.
use Rattle.std.specs.Prelude.{Err}
use borrow.Author.Rules.{rules}
use mathlib.Core.Path.{◌≡◌, sym, ◌∙◌}
use Prim.Native.Nat.{◌<◌}
use native.Mathlib.Omega.{arith}
use Rattle.values.specs.Values.{judgement_of}
use Rattle.record_writing.proofs.WriteLaws.{at_count, at-values, at-extended, at_last}
use Rattle.record_writing.proofs.judge_values.Goals as goal
use Rattle.record_writing.proofs.judge_values.Goals.{After-judge, In_ok-judge, Start}

pub returns-then-count-gt16777215 : goal.returns-then-count-gt16777215
returns-then-count-gt16777215 c = sym (at_count _ _ _ _ _ _ c.if-count-gt16777215.true)

-- what was found of the values
module _ (c : After-judge) where
  abbrev start : Start
  start = (goal.at.After-judge c).Start

  counted : start.args.count < 16777216
  counted = omega arith

  judged : judgement_of 2 start.args.stored start.args.order start.args.count start.args.values.now ≡ c.judge.result
  judged = sym c.judge.ensures

pub returns-in_err-judge : goal.returns-in_err-judge
returns-in_err-judge c =
    let j = (goal.at.returns-in_err-judge c).After-judge in
    let gone : c.from_residual.result ≡ Err c.in_err-judge.field-0.0 = search rules in
    gone ∙ sym (at-values _ _ _ _ _ _ (counted j) (judged j ∙ c.in_err-judge.was))

pub returns-then-extended-gt65535 : goal.returns-then-extended-gt65535
returns-then-extended-gt65535 c =
    let e = (goal.at.returns-then-extended-gt65535 c).In_ok-judge in
    let j = (goal.at.In_ok-judge e).After-judge in
    sym (at-extended _ _ _ _ _ _ (counted j) (judged j ∙ e.in_ok-judge.was) c.if-wanted.true c.if-extended-gt65535.true)

pub returns-else-extended-gt65535 : goal.returns-else-extended-gt65535
returns-else-extended-gt65535 c =
    let e = (goal.at.returns-else-extended-gt65535 c).In_ok-judge in
    let j = (goal.at.In_ok-judge e).After-judge in
    sym (at_last _ _ _ _ _ _ (counted j) (judged j ∙ e.in_ok-judge.was) (λ h. omega (arith, c.if-extended-gt65535.false)))

pub returns-else-wanted : goal.returns-else-wanted
returns-else-wanted c =
    let e = (goal.at.returns-else-wanted c).In_ok-judge in
    let j = (goal.at.In_ok-judge e).After-judge in
    sym (at_last _ _ _ _ _ _ (counted j) (judged j ∙ e.in_ok-judge.was) (λ h. absurd (rw c.if-wanted.false at h)))
