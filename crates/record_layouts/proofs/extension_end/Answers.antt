-- `record_layouts::extension_end` meets its contract: a length of two bytes, and a jump over as many.
use mathlib.Core.Path.{sym, ◌∙◌}
use native.Mathlib.Omega.{arith}
use Rattle.record_layouts.proofs.Extension.{no-extension, extension-short, extension-jump}
use Rattle.record_layouts.proofs.extension_end.Goals as goal
use Rattle.record_layouts.proofs.extension_end.Goals.{After-pair-size}

pub returns-then-not-announced : goal.returns-then-not-announced
returns-then-not-announced c = sym (no-extension _ _ _ (c.if-not-announced.true))

pub returns-then-s-start : goal.returns-then-s-start
returns-then-s-start c = sym (extension-short _ _ _ (c.if-not-announced.false) (omega arith))

pub returns-then-s-start-lt2 : goal.returns-then-s-start-lt2
returns-then-s-start-lt2 c = sym (extension-short _ _ _ (c.if-not-announced.false) (omega arith))

pub returns : goal.returns
returns c =
    let p = (goal.at.returns c).After-pair-size in
    c.jump.ensures ∙ rw p.pair-size.ensures (sym (extension-jump _ _ _ (p.if-not-announced.false) (omega arith)))
