-- `record_fronts::front_behind` meets its contract: what opens the body is looked for where the channels end, and a failure travels whole.
use Rattle.std.specs.Prelude.{Err}
use borrow.Author.Rules.{rules}
use mathlib.Core.Path.{◌≡◌, sym, ◌∙◌}
use Rattle.formats.specs.Reader.{read_at}
use Rattle.formats.specs.Told.{then_told}
use Rattle.record_fronts.specs.Front.{opened}
use Rattle.record_fronts.specs.FrontLaws.{opened-failed, opened-done}
use Rattle.record_fronts.proofs.front_behind.Goals as goal

pub returns-in_err-measured : goal.returns-in_err-measured
unfolding then_told
returns-in_err-measured c =
    let gone : c.from_residual.result ≡ Err c.in_err-measured.field-0.0 = search rules in
    let failed : c.args.measured ≡ Err c.in_err-measured.field-0.0 = c.in_err-measured.was in
    gone ∙ sym (rw failed)

pub returns-in_err-opened : goal.returns-in_err-opened
unfolding then_told
returns-in_err-opened c =
    let gone : c.from_residual-in_err-opened.result ≡ Err c.in_err-opened.field-0.0 = search rules in
    gone ∙ sym (rw c.in_ok-measured.was (opened-failed _ _ (read_at opened _ _) (sym c.opened_at.ensures ∙ c.in_err-opened.was)))

pub returns : goal.returns
unfolding then_told
returns c = sym (rw c.in_ok-measured.was (opened-done _ _ (read_at opened _ _) (sym c.opened_at.ensures ∙ c.in_ok-opened.was)))
