-- A reading in thousandths: the stored value divided by the scaling value (7.3.4.3), as document 01 has it.
use Rattle.std.specs.Prelude.{ℕ, suc, ◌+◌, ◌*◌, ◌/◌, ◌^◌, ℤ, pos, negsuc, neg_ℤ, ◌*ℤ◌, Result, Ok, Err, Option, Some, None}
use Rattle.channels.specs.declared.Attribute.{Attribute}
use Rattle.channels.specs.declared.Place.{Place}
use Rattle.calibration.specs.Reading as calibration
use Rattle.calibration.specs.Reading.{value, absent, refused}
use Rattle.refusals.specs.declared.Refusal.{Refusal}

-- ---- The number

-- the whole number nearest to n / d, a half going up
abbrev pub half_up : ℕ → ℕ → ℕ
half_up n d = (2 * n + d) / (2 * d)

-- the whole number nearest to n / d, a half going away from zero: the size is rounded, and the sign kept (`negsuc n` is -(n + 1))
unfoldable pub nearest : ℤ → ℕ → ℤ
nearest (pos n) d = pos (half_up n d)
nearest (negsuc n) d = neg_ℤ (pos (half_up (suc n) d))

-- scale = (1 + F/2048) · 2^(E-16), so 1000 · raw / scale is 2^27 · (1000 · raw) over (2048 + F) · 2^E
abbrev pub numerator : ℤ → ℤ
numerator raw = pos (2 ^ 27) *ℤ (pos 1000 *ℤ raw)

abbrev pub denominator : ℕ → ℕ → ℕ
denominator e f = (2048 + f) * 2 ^ e

-- the whole number of thousandths nearest to raw / scale
unfoldable pub thousandths : ℤ → ℕ → ℕ → ℤ
thousandths raw e f = nearest (numerator raw) (denominator e f)

-- ---- The answer: that of `calibration`, whose division gives thousandths

abbrev pub Answer : Type 0
Answer = calibration.Answer ℤ

-- to_thousandths
abbrev pub reading : (raw : ℤ) (e f : ℕ) → Answer
reading = calibration.reading thousandths

-- place_thousandths
abbrev pub place_reading : (place : Place) (scaling : Attribute) → Answer
place_reading = calibration.place_reading thousandths

-- ---- What the code's answers say

abbrev pub told : Result ℤ Refusal → Answer
told (Ok z) = value z
told (Err refusal) = refused refusal

abbrev pub told_place : Option (Result ℤ Refusal) → Answer
told_place None = absent
told_place (Some r) = told r
