-- `record_reading::extent_behind` meets its contract: the front and what lies behind it are found by the flags that come with the description.
use Rattle.std.specs.Prelude.{Ok, Err}
use borrow.Author.Rules.{rules}
use mathlib.Core.Path.{◌≡◌, sym, ap, ◌∙◌}
use native.Mathlib.Omega.{arith}
use Rattle.formats.specs.Told.{then_told}
use Rattle.refusals.specs.Table.{refusal_of}
use Rattle.record_layouts.specs.LayoutLaws.{front-layout}
use Rattle.record_reading.proofs.Verdicts.{front-described, verdict-record, verdict-failed}
use Rattle.record_reading.proofs.extent_behind.Goals as goal

pub returns-in_err-layout : goal.returns-in_err-layout
unfolding then_told
returns-in_err-layout c at place h =
    let gone : c.from_residual.result ≡ Err (refusal_of c.in_err-layout.field-0.0) = search rules in
    gone
    ∙ verdict-failed _ _ (omega arith)
    (front-layout _ _ (sym (front-described _ place h) ∙ sym c.front_behind-front.ensures) c.layout_behind.ensures ∙ c.in_err-layout.was)

pub extent_of-requires : goal.extent_of-requires
extent_of-requires c = omega arith

pub returns : goal.returns
unfolding then_told
returns c at place h =
    ap Ok c.extent_of.ensures
    ∙ verdict-record _ _ (omega arith)
    (front-layout _ _ (sym (front-described _ place h) ∙ sym c.front_behind-front.ensures) c.layout_behind.ensures ∙ c.in_ok-layout.was)
