-- `record_reading::verdict_at` meets its contract: a start past the end is short, and else the layout decides.
use Rattle.std.specs.Prelude.{Ok, Err}
use borrow.Author.Rules.{rules}
use mathlib.Core.Path.{◌≡◌, sym, ap, ◌∙◌}
use native.Mathlib.Omega.{arith}
use Rattle.refusals.specs.Table.{refusal_of}
use Rattle.record_reading.specs.Verdict.{verdict_from}
use Rattle.record_reading.proofs.Verdicts.{record-past, record-from, verdict-record, verdict-failed}
use Rattle.record_reading.proofs.verdict_at.Goals as goal

pub returns-then-bytes-start : goal.returns-then-bytes-start
unfolding verdict_from refusal_of
returns-then-bytes-start c = sym (ap (verdict_from _) (record-past _ _ (omega arith)))

pub returns-in_err-layout : goal.returns-in_err-layout
returns-in_err-layout c =
    let gone : c.from_residual.result ≡ Err (refusal_of c.in_err-layout.field-0.0) = search rules in
    gone ∙ verdict-failed _ _ (omega arith) (sym c.layout_at.ensures ∙ c.in_err-layout.was)

pub extent_of-requires : goal.extent_of-requires
extent_of-requires c = record-from _ _ (omega arith) (sym c.layout_at.ensures ∙ c.in_ok-layout.was)

pub returns : goal.returns
returns c = ap Ok c.extent_of.ensures ∙ verdict-record _ _ (omega arith) (sym c.layout_at.ensures ∙ c.in_ok-layout.was)
