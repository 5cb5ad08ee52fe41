-- `calibration::with_scaling` meets its contract: by the scaling value's flag, and behind it by the sign of its number, which is read by its E and F or, below zero, by E 32. Assumes nothing.
use mathlib.Core.Path.{◌≡◌, sym, ap, ◌∙◌}
use mathlib.Core.Bool.{true, false}
use Prim.Native.Nat.{ℕ}
use native.Mathlib.Omega.{arith}
use borrow.Author.Rules.{rules}
use borrow.Author.Tests.{ltb-true}
use lib.Dec.{T}
use lib.IntN.{ℤ, pos, negsuc, nat_abs}
use lib.Signed.{lt_z, non_neg}
use mir.Syntax.{w32, w64}
use mir.Val.{Fits, SFits, to_z, of_z}
use mir.ValLaws.{to_z-of_z}
use Rattle.calibration.specs.Reading.{exponent_of, fraction_of, reading, reading_by, scaled_reading, operands}
use Rattle.calibration.proofs.Laws.{by-exponent-and-fraction, by-one-below-zero}
use Rattle.calibration.proofs.with_scaling.Goals as goal
use Rattle.calibration.proofs.with_scaling.Goals.{Else-not-given, Else-number-lt0, Start, Then-number-lt0}

-- a number below zero, and one that is not
negative : (raw number : ℤ) → lt_z number (pos 0) ≡ true → reading operands raw 32 0 ≡ reading_by operands raw number
negative raw (pos n) h = let k = ltb-true n 0 h in absurd (omega arith)
negative raw (negsuc n) h = sym (by-one-below-zero operands raw n)

record Natural (raw number : ℤ) : Type 0 where
  sign : T (non_neg number)
  fits : Fits w64 (nat_abs number)
  reads : reading operands raw (exponent_of (nat_abs number)) (fraction_of (nat_abs number)) ≡ reading_by operands raw number

natural : (raw number : ℤ) → SFits w32 number → lt_z number (pos 0) ≡ false → Natural raw number
natural raw (pos n) f h = let k = f.sfits in record { sign = tt; fits = record { fits = omega arith }; reads = sym (by-exponent-and-fraction operands raw n) }
natural raw (negsuc n) f h = let z : ◌≡◌ {A = ℕ} 0 1 = cc in absurd (omega arith)

-- what the tests on its bits say
read_number : (s : Start) → to_z w32 (of_z w32 s.args.scaling.number) ≡ s.args.scaling.number
read_number s = to_z-of_z w32 _ (search rules)

natural-number : (c : Else-number-lt0) → Natural c.args.raw c.args.scaling.number
natural-number c =
    let s = (goal.at.Else-number-lt0 c).Start in
    natural s.args.raw s.args.scaling.number (search rules) (rw (read_number s) at c.if-number-lt0.false)

-- where the flag is clear, and where it is set
pub returns-then-not-given : goal.returns-then-not-given
unfolding scaled_reading
returns-then-not-given c = rw c.if-not-given.true

given : (c : Else-not-given) → c.args.scaling.given ≡ true
given c = c.if-not-given.false

pub returns-then-number-lt0 : goal.returns-then-number-lt0
unfolding scaled_reading
returns-then-number-lt0 c =
    let t = (goal.at.returns-then-number-lt0 c).Then-number-lt0 in
    let s = (goal.at.Then-number-lt0 t).Start in
    rw (given (goal.at.Then-number-lt0 t).Else-not-given) (c.with_scale.ensures ∙ ap (λ (z : ℤ). reading operands z 32 0) (to_z-of_z w64 s.args.raw s.ranges.raw) ∙ negative s.args.raw s.args.scaling.number (rw (read_number s) at t.if-number-lt0.true))

pub overflow_cast-value : goal.overflow_cast-value
overflow_cast-value c = rw (read_number (goal.at.overflow_cast-value c).Start) ((natural-number c).sign, (natural-number c).fits)

pub returns : goal.returns
unfolding scaled_reading
returns c =
    let b = (goal.at.returns c).Else-number-lt0 in
    let s = (goal.at.Else-number-lt0 b).Start in
    rw (given (goal.at.Else-number-lt0 b).Else-not-given) (c.with_scale-2.ensures ∙ rw (to_z-of_z w64 s.args.raw s.ranges.raw, read_number s) (natural-number b).reads)
