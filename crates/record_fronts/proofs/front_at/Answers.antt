-- `record_fronts::front_at` meets its contract: the channels are measured where the identifier and the version are there.
use Rattle.std.specs.Prelude.{Err}
use borrow.Author.Rules.{rules}
use mathlib.Core.Path.{◌≡◌, sym, ap, ◌∙◌}
use Rattle.formats.specs.Told.{failed-answered, then_told}
use Rattle.record_fronts.specs.Fronted.{front_of, fronted, front_behind}
use Rattle.record_fronts.specs.FrontLaws.{front-done, front-failed, channelled-is}
use Rattle.record_fronts.proofs.front_at.Goals as goal

pub returns-in_err-at : goal.returns-in_err-at
returns-in_err-at c =
    let gone : c.from_residual.result ≡ Err c.in_err-at.field-0.0 = search rules in
    gone ∙ sym (failed-answered front_of _ (front-failed _ _ (sym c.end.ensures ∙ c.in_err-at.was)))

pub returns : goal.returns
returns c =
    c.front_behind.ensures
    ∙ ap (λ m. then_told m (front_behind c.args.bytes.now)) c.measure-measured.ensures
    ∙ channelled-is _ _
    ∙ sym (ap fronted (front-done _ _ (sym c.end.ensures ∙ c.in_ok-at.was)))
