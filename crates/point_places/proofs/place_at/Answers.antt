-- `point_places::place_at` meets its contract: the flags decide whether a number is read.
use mathlib.Core.Path.{sym, ap, ◌∙◌}
use mir.Syntax.{w32}
use Rattle.std.specs.Prelude.{◌≡◌, Err}
use mir.ValLaws.{to_z-of_z}
use Rattle.point_places.specs.Parts.{place_read}
use Rattle.point_places.proofs.Setting.{place-unstored, place-stored}
use borrow.Author.Rules.{rules}
use Rattle.point_places.proofs.place_at.Goals as goal
use Rattle.point_places.proofs.place_at.Goals.{After-sample_at}

pub returns-in_ok-sample : goal.returns-in_ok-sample
returns-in_ok-sample c =
    let m = (goal.at.returns-in_ok-sample c).After-sample_at in
    rw (to_z-of_z w32 c.in_ok-sample.sample.value (search rules)) (sym (place-stored _ _ _ _ _ _ m.if-stored.true (sym m.sample_at.ensures ∙ c.in_ok-sample.was)))

pub returns-in_err-sample : goal.returns-in_err-sample
returns-in_err-sample c =
    let m = (goal.at.returns-in_err-sample c).After-sample_at in
    let gone : c.from_residual.result ≡ Err c.in_err-sample.field-0.0 = search rules in
    gone ∙ sym (place-stored _ _ _ _ _ _ m.if-stored.true (sym m.sample_at.ensures ∙ c.in_err-sample.was))

pub returns-then-included : goal.returns-then-included
unfolding place_read
returns-then-included c = sym (ap place_read (place-unstored _ _ _ _ _ _ c.if-stored.false) ∙ rw c.if-included.true)

pub returns-else-included : goal.returns-else-included
unfolding place_read
returns-else-included c = sym (ap place_read (place-unstored _ _ _ _ _ _ c.if-stored.false) ∙ rw c.if-included.false)
