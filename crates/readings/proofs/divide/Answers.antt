-- `readings::divide` meets its contract: numerator and denominator of numbers in their ranges fit their words. Assumes nothing.
use mathlib.Core.Path.{◌≡◌, ap, ◌∙◌}
use Prim.Native.Nat.{ℕ, ◌+◌, ◌^◌, ◌≤◌, ◌<◌}
use native.Mathlib.Nat.{lt_of_lt_of_le, mul-pos}
use native.Mathlib.Omega.{arith}
use borrow.Author.Rules.{sfits_of}
use lib.Dec.{lt→ltb}
use lib.IntN.{ℤ, pos, nat_abs, ◌*ℤ◌}
use lib.Pow.{pow_pos, pow_mono, shl_lt}
use mir.Syntax.{w64}
use mir.Val.{SFits}
use mir.Facts.{to_z-of_z, to_z_pos}
use Rattle.calibration.proofs.Tested.{read}
use Rattle.readings.specs.Thousandths.{numerator, denominator, thousandths}
use Rattle.readings.proofs.Held.{fits-as, read_as, size-product, product-fits}
use Rattle.readings.proofs.divide.Goals as goal
use Rattle.readings.proofs.divide.Goals.{After-denominator_of-denominator, Start}

-- ---- The numerator and the denominator of what is in its ranges

record Numerator (raw : ℤ) : Type 0 where
  thousandfold : SFits w64 (pos 1000 *ℤ read raw)
  whole : SFits w64 (pos 134217728 *ℤ read (pos 1000 *ℤ read raw))
  is : read (pos 134217728 *ℤ read (pos 1000 *ℤ read raw)) ≡ numerator raw

numerator-of : (raw : ℤ) → SFits w64 raw → nat_abs raw ≤ 65535 → Numerator raw
numerator-of raw held h =
    let first = product-fits 1000 raw (omega arith) in
    let e : pos 1000 *ℤ read raw ≡ pos 1000 *ℤ raw = ap (λ (z : ℤ). pos 1000 *ℤ z) (to_z-of_z held) in
    let second = product-fits 134217728 (pos 1000 *ℤ raw) (rw (size-product 1000 raw) (omega arith)) in
    let e' : pos 134217728 *ℤ read (pos 1000 *ℤ read raw) ≡ numerator raw = ap (λ (z : ℤ). pos 134217728 *ℤ z) (read_as e first) in
    record { thousandfold = fits-as e first; whole = fits-as e' second; is = read_as e' second }

denominator-small : (e f : ℕ) → e ≤ 31 → f ≤ 2047 → (0 < denominator e f) × (denominator e f < 2 ^ 63)
denominator-small e f he hf = (mul-pos (omega arith) (pow_pos e), lt_of_lt_of_le (shl_lt 12 e (omega arith)) (pow_mono {i = 12 + e} {j = 63} (omega arith)))

-- ---- The needs

pub denominator_of-denominator-requires : goal.denominator_of-denominator-requires
denominator_of-denominator-requires c = (c.requires.exponent, c.requires.fraction)

-- what the call finds
over : (c : After-denominator_of-denominator) → (0 < c.denominator_of-denominator.result) × (c.denominator_of-denominator.result < 2 ^ 63)
over c = rw c.denominator_of-denominator.ensures (denominator-small _ _ c.requires.exponent c.requires.fraction)

under : (c : After-denominator_of-denominator) → Numerator c.args.raw
under c = let s = (goal.at.After-denominator_of-denominator c).Start in numerator-of s.args.raw s.ranges.raw s.requires.size

pub overflow_cast-denominator : goal.overflow_cast-denominator
overflow_cast-denominator c = record { sfits = (over c).1 }

pub overflow_mul-thousandfold : goal.overflow_mul-thousandfold
overflow_mul-thousandfold c = (under c).thousandfold

pub overflow_mul-thousandfold-2 : goal.overflow_mul-thousandfold-2
overflow_mul-thousandfold-2 c = (under c).whole

pub divide_nearest-requires : goal.divide_nearest-requires
divide_nearest-requires c = rw (to_z_pos w64 (over c).1) (record { lt = lt→ltb 0 _ (over c).0 })

pub returns : goal.returns
unfolding thousandths
returns c =
    let b = (goal.at.returns c).After-denominator_of-denominator in
    to_z-of_z (sfits_of {w = w64} c.divide_nearest.type_inv) ∙ c.divide_nearest.ensures ∙ rw ((under b).is, to_z_pos w64 (over b).1, b.denominator_of-denominator.ensures)
