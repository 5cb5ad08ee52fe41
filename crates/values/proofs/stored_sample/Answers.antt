-- `values::stored_sample` meets its contract.
use mathlib.Core.Path.{◌≡◌, sym, ◌∙◌}
use mir.Syntax.{w32}
use mir.Val.{to_z, of_z}
use mir.ValLaws.{to_z-of_z}
use Rattle.values.proofs.Lent.{stored-switch, stored_other}
use Rattle.values.proofs.stored_sample.Goals as goal
use Rattle.values.proofs.stored_sample.Goals.{Start}

back : (s : Start) → to_z w32 (of_z w32 s.args.value) ≡ s.args.value
back s = to_z-of_z w32 s.args.value s.ranges.value

pub returns-then-channel-eq-S : goal.returns-then-channel-eq-S
returns-then-channel-eq-S c = c.byte_of.ensures ∙ rw (back (goal.at.returns-then-channel-eq-S c).Start) (sym (stored-switch _ _ _ c.if-channel-eq-S.true))

pub returns : goal.returns
returns c =
    let s = (goal.at.returns c).Start in
    c.stored_of.ensures ∙ rw (back s, c.is_signed.ensures) (sym (stored_other _ _ _ c.if-channel-eq-S.false))
