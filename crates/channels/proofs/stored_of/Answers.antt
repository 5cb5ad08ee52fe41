-- `channels::stored_of` meets its contract: 64 bits hold the number with its offset, and the two tests on that are the definition's.
use mathlib.Core.Path.{◌≡◌, refl, ap, ◌∙◌}
use mathlib.Core.Bool.{Bool, true, false}
use Prim.Native.Nat.{◌^◌}
use lib.IntN.{ℤ, pos, ◌+ℤ◌}
use lib.Signed.{lt_z, le_z}
use borrow.Author.Rules.{rules}
use mir.Syntax.{w32, w64}
use mir.Val.{SFits, to_z, of_z}
use mir.ValLaws.{to_z-of_z}
use Rattle.channels.specs.Channel.{width_of}
use Rattle.channels.specs.Stored.{offset, stored_of, stored_if, fits}
use Rattle.channels.specs.declared.Format.{Format}
use Rattle.channels.proofs.Numbers.{offset-fits, wide, sum, sum_fits, limit, limit-fits, small, found}
use Rattle.channels.proofs.stored_of.Goals as goal
use Rattle.channels.proofs.stored_of.Goals.{After-limit_of, After-offset_of, Start}

pub overflow_cast-number : goal.overflow_cast-number
overflow_cast-number c = rw (to_z-of_z w32 _ c.ranges.value) (wide _ c.ranges.value)

pub overflow_cast-number-2 : goal.overflow_cast-number-2
overflow_cast-number-2 c =
    let f = offset-fits c.args.format c.args.signed in
    rw (c.offset_of.ensures, to_z-of_z w32 _ f) (wide _ f)

abbrev meant : Start → ℤ
meant s = s.args.value +ℤ offset (width_of s.args.format) s.args.signed

-- the sum as the machine has it
added : (c : After-offset_of)
    → to_z w64 (of_z w64 (to_z w32 (of_z w32 c.args.value))) +ℤ to_z w64 (of_z w64 (to_z w32 (of_z w32 c.offset_of.result))) ≡ meant (goal.at.After-offset_of c).Start
added c = sum c.args.format c.args.signed c.args.value c.ranges.value c.offset_of.result c.offset_of.ensures

held : (s : Start) → SFits w64 (meant s)
held s = sum_fits s.args.format s.args.signed s.args.value s.ranges.value

pub overflow_add-number : goal.overflow_add-number
overflow_add-number c = rw (added c) (held (goal.at.overflow_add-number c).Start)

-- the number that the tests are made on
number : (c : After-offset_of)
    → to_z w64 (of_z w64 (to_z w64 (of_z w64 (to_z w32 (of_z w32 c.args.value))) +ℤ to_z w64 (of_z w64 (to_z w32 (of_z w32 c.offset_of.result))))) ≡ meant (goal.at.After-offset_of c).Start
number c = ap (λ z. to_z w64 (of_z w64 z)) (added c) ∙ to_z-of_z w64 _ (held (goal.at.After-offset_of c).Start)

-- and the limit
most : (format : Format) (z : ℤ) → z ≡ pos (256 ^ width_of format) → to_z w64 (of_z w64 z) ≡ pos (256 ^ width_of format)
most format z e = rw e (to_z-of_z w64 _ (limit-fits format))

pub returns-then-number-lt0 : goal.returns-then-number-lt0
unfolding stored_if fits
returns-then-number-lt0 c =
    let a = c.args in
    found (256 ^ width_of a.format) (meant (goal.at.returns-then-number-lt0 c).Start) true _ (rw (number (goal.at.returns-then-number-lt0 c).After-offset_of) at c.if-number-lt0.true) refl _

-- the two tests together
module _ (c : After-limit_of) where
  abbrev start : Start
  start = (goal.at.After-limit_of c).Start

  low : lt_z (meant start) (pos 0) ≡ false
  low = rw (← number (goal.at.After-limit_of c).After-offset_of) (search rules)

  high : (t : Bool)
      → le_z
      (to_z w64 (of_z w64 c.limit_of.result))
      (to_z w64 (of_z w64 (to_z w64 (of_z w64 (to_z w32 (of_z w32 start.args.value))) +ℤ to_z w64 (of_z w64 (to_z w32 (of_z w32 c.offset_of.result))))))
      ≡ t → le_z (pos (256 ^ width_of start.args.format)) (meant start) ≡ t
  high t h = rw (most start.args.format c.limit_of.result c.limit_of.ensures, number (goal.at.After-limit_of c).After-offset_of) at h

pub returns-then-limit_of-number : goal.returns-then-limit_of-number
unfolding stored_if fits
returns-then-limit_of-number c =
    let s = start (goal.at.returns-then-limit_of-number c).After-limit_of in
    found (256 ^ width_of s.args.format) (meant s) false true (low (goal.at.returns-then-limit_of-number c).After-limit_of) (high (goal.at.returns-then-limit_of-number c).After-limit_of true c.if-limit_of-number.true) _

pub overflow_cast-result : goal.overflow_cast-result
overflow_cast-result c =
    let s = start (goal.at.overflow_cast-result c).After-limit_of in
    rw (number (goal.at.overflow_cast-result c).After-offset_of)
    (small (256 ^ width_of s.args.format) (limit s.args.format) (meant s) (low (goal.at.overflow_cast-result c).After-limit_of) (high (goal.at.overflow_cast-result c).After-limit_of false c.if-limit_of-number.false))

pub returns : goal.returns
unfolding stored_if fits stored_of
returns c =
    let s = start (goal.at.returns c).After-limit_of in
    rw (number (goal.at.returns c).After-offset_of)
    (found (256 ^ width_of s.args.format) (meant s) false false (low (goal.at.returns c).After-limit_of) (high (goal.at.returns c).After-limit_of false c.if-limit_of-number.false) _)
