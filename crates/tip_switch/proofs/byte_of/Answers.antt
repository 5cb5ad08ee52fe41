-- `tip_switch::byte_of` meets its contract: the two tests together are the definition's.
use mathlib.Core.Path.{◌≡◌, refl}
use mathlib.Core.Bool.{Bool, true, false}
use native.Mathlib.Omega.{arith}
use borrow.Author.Rules.{rules}
use lib.IntN.{ℤ, pos}
use lib.Signed.{lt_z, le_z}
use mir.Syntax.{w32}
use mir.Val.{SFits, to_z, of_z}
use mir.ValLaws.{to_z-of_z}
use Rattle.tip_switch.specs.Switch.{byte_if, is_state, byte_of}
use Rattle.channels.proofs.Numbers.{small, found}
use Rattle.tip_switch.proofs.byte_of.Goals as goal
use Rattle.tip_switch.proofs.byte_of.Goals.{Start}

-- what a test on the bits of z says of z
module _ {z : ℤ} (f : SFits w32 z) where
  low : (t : Bool) → lt_z (to_z w32 (of_z w32 z)) (pos 0) ≡ t → lt_z z (pos 0) ≡ t
  low t h = rw (to_z-of_z w32 z f) at h

  high : (t : Bool) → le_z (pos 2) (to_z w32 (of_z w32 z)) ≡ t → le_z (pos 2) z ≡ t
  high t h = rw (to_z-of_z w32 z f) at h

pub returns-then-state-lt0 : goal.returns-then-state-lt0
unfolding byte_if is_state
returns-then-state-lt0 c = found 2 c.args.state true _ (low c.ranges.state true c.if-state-lt0.true) refl _

pub returns-then-state-ge2 : goal.returns-then-state-ge2
unfolding byte_if is_state
returns-then-state-ge2 c =
    let s = (goal.at.returns-then-state-ge2 c).Start in
    found 2 s.args.state false true (low s.ranges.state false (search rules)) (high s.ranges.state true (search rules)) _

pub overflow_cast-result : goal.overflow_cast-result
overflow_cast-result c =
    let s = (goal.at.overflow_cast-result c).Start in
    rw (to_z-of_z w32 _ s.ranges.state)
    (small 2 (omega arith) s.args.state (low s.ranges.state false (search rules)) (high s.ranges.state false (search rules)))

pub returns : goal.returns
unfolding byte_if is_state byte_of
returns c =
    let s = (goal.at.returns c).Start in
    rw (to_z-of_z w32 _ s.ranges.state)
    (found 2 s.args.state false false (low s.ranges.state false (search rules)) (high s.ranges.state false (search rules)) _)
