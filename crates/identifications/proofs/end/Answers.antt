-- `identifications::end` meets its contract: the version is looked at where the identifier is there.
use Rattle.std.specs.Prelude.{Err}
use borrow.Author.Rules.{rules}
use mathlib.Core.Path.{◌≡◌, sym, ◌∙◌}
use native.Mathlib.Omega.{arith}
use Rattle.identifications.specs.IdentificationLaws.{identifier-within, identification-done, identification-failed, identification-past}
use Rattle.identifications.proofs.end.Goals as goal

pub returns-then-bytes-start : goal.returns-then-bytes-start
returns-then-bytes-start c = sym (identification-past _ _ (omega arith))

pub bytes_at-requires : goal.bytes_at-requires
bytes_at-requires c = omega arith

pub returns-in_err-at : goal.returns-in_err-at
returns-in_err-at c =
    let gone : c.from_residual.result ≡ Err c.in_err-at.field-0.0 = search rules in
    gone ∙ sym (identification-failed _ _ (sym c.bytes_at.ensures ∙ c.in_err-at.was))

pub bytes_at-requires-2 : goal.bytes_at-requires-2
bytes_at-requires-2 c = identifier-within _ _ (omega arith) (sym c.bytes_at.ensures ∙ c.in_ok-at.was)

pub returns : goal.returns
returns c = c.bytes_at-2.ensures ∙ sym (identification-done _ _ (sym c.bytes_at.ensures ∙ c.in_ok-at.was))
