-- `record_points::judge_point` meets its contract: the count of points decides where there is a record.
use Rattle.std.specs.Prelude.{Err}
use borrow.Author.Rules.{rules}
use mathlib.Core.Path.{◌≡◌, sym, ◌∙◌}
use Rattle.refusals.specs.Table.{refusal_of}
use Rattle.record_points.proofs.Pointing.{pointed-failed, pointed-there, pointed-none}
use Rattle.record_points.proofs.judge_point.Goals as goal

pub returns-in_err-layout : goal.returns-in_err-layout
returns-in_err-layout c =
    let gone : c.from_residual.result ≡ Err (refusal_of c.in_err-layout.field-0.0) = search rules in
    gone ∙ pointed-failed _ (sym c.layout_at.ensures ∙ c.in_err-layout.was) _

pub returns-then-index-layout : goal.returns-then-index-layout
returns-then-index-layout c = pointed-there _ (sym c.layout_at.ensures ∙ c.in_ok-layout.was) _ c.if-index-layout.true

pub returns-else-index-layout : goal.returns-else-index-layout
returns-else-index-layout c = pointed-none _ (sym c.layout_at.ensures ∙ c.in_ok-layout.was) _ c.if-index-layout.false
