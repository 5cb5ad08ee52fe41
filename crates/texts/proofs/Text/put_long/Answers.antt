-- `texts::Text::put_long` meets its contract: the sign is put before the magnitude.
use mathlib.Core.Path.{◌≡◌, ◌∙◌}
use mir.Syntax.{w64}
use mir.Val.{to_z, of_z}
use mir.ValLaws.{to_z-of_z}
use Rattle.texts.specs.JoiningLaws.{long-below, long-above}
use Rattle.texts.proofs.Text.put_long.Goals as goal
use Rattle.texts.proofs.Text.put_long.Goals.{then-value-lt0, else-value-lt0}

pub returns : goal.returns
returns c =
    let e : to_z w64 (of_z w64 c.args.value) ≡ c.args.value = to_z-of_z w64 _ c.ranges.value in
    let n = rw e at c.unsigned_abs.ensures.value in
    c.put_number.ensures
    ∙ elim c.if-value-lt0.branch [
      | then-value-lt0 w ↦ long-below _ _ _ _ (rw e at w.if-value-lt0.true) (w.self-is ∙ w.put.ensures) n
      | else-value-lt0 w ↦ long-above _ _ _ _ (rw e at w.if-value-lt0.false) w.self-is n
    ]
