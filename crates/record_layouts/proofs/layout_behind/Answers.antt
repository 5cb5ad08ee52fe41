-- `record_layouts::layout_behind` meets its contract: each part is looked for where the one before it ended well.
use Rattle.std.specs.Prelude.{Err}
use borrow.Author.Rules.{rules}
use mathlib.Core.Path.{◌≡◌, sym, ◌∙◌}
use Rattle.formats.specs.Told.{then_told}
use Rattle.record_layouts.specs.Layout.{layout_behind}
use Rattle.record_layouts.proofs.layout_behind.Goals as goal

pub returns-in_err-front : goal.returns-in_err-front
unfolding then_told
returns-in_err-front c =
    let gone : c.from_residual.result ≡ Err c.in_err-front.field-0.0 = search rules in
    let failed : c.args.front ≡ Err c.in_err-front.field-0.0 = c.in_err-front.was in
    gone ∙ sym (rw failed)

pub returns-in_err-extension : goal.returns-in_err-extension
unfolding layout_behind then_told
returns-in_err-extension c =
    let gone : c.from_residual-in_err-extension.result ≡ Err c.in_err-extension.field-0.0 = search rules in
    gone ∙ sym (rw (c.in_ok-front.was, sym c.judge.ensures ∙ c.in_err-extension.was))

pub returns-in_err-end : goal.returns-in_err-end
unfolding layout_behind then_told
returns-in_err-end c =
    let gone : c.from_residual-in_err-end.result ≡ Err c.in_err-end.field-0.0 = search rules in
    gone ∙ sym (rw (c.in_ok-front.was, sym c.judge.ensures ∙ c.in_ok-extension.was, sym c.extension_end.ensures ∙ c.in_err-end.was))

pub returns : goal.returns
unfolding layout_behind then_told
returns c = sym (rw (c.in_ok-front.was, sym c.judge.ensures ∙ c.in_ok-extension.was, sym c.extension_end.ensures ∙ c.in_ok-end.was))
