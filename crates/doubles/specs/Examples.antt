-- Readings by their bits, as every IEEE 754 machine has them, and what a place of a point reads as.
use Rattle.std.specs.Prelude.{◌≡◌, refl, true, false, List, [], ◌∷◌, map, ℕ, ◌+◌, ◌-◌, ◌*◌, ◌^◌, pos, negsuc}
use Rattle.std.proofs.Common.{lit<}
use Rattle.std.specs.Float.{binary64}
use Rattle.std.specs.Float.Ieee.{div, of_int, of_bits, to_bits}
use Rattle.channels.specs.declared.Attribute.{Attribute}
use Rattle.channels.specs.declared.Place.TheVariants.{Absent, Constant, Number}
use Rattle.refusals.specs.Stages.{require, or_else}
use Rattle.refusals.specs.Ranges.{first_misfit}
use Rattle.refusals.specs.declared.Quantity.TheVariants.{Raw, Exponent, Fraction}
use Rattle.calibration.specs.Reading as calibration
use Rattle.calibration.specs.Reading.{value, absent, uncalibrated, numbers, scaled_numbers, read_where, reading_by, scaled_reading}
use Rattle.calibration.specs.Naming.{outside}
use Rattle.doubles.specs.Double.{size_by, Is}
use Rattle.doubles.specs.Quotient.{bits_of, quotient}
use Rattle.doubles.specs.Reading.{Answer, reading, place_reading}

-- ---- What some doubles are

pub one : Is 0x3ff0_0000_0000_0000 (pos 1) 1
unfolding size_by
one = record { word = lit< tt; number = lit< tt; equal = refl }

-- -3/4
pub below-zero : Is 0xbfe8_0000_0000_0000 (negsuc 2) 4
unfolding size_by
below-zero = record { word = lit< tt; number = lit< tt; equal = refl }

-- the least above zero, and the greatest
pub least : Is 1 (pos 1) (2 ^ 1074)
unfolding size_by
least = record { word = lit< tt; number = lit< tt; equal = refl }

pub greatest : Is 0x7fef_ffff_ffff_ffff (pos ((2 ^ 53 - 1) * 2 ^ 971)) 1
unfolding size_by
greatest = record { word = lit< tt; number = lit< tt; equal = refl }

-- ---- Readings

record Example (A : Type 0) : Type 0 where
  asked : A
  answer : A

infix 20 ◌is◌
abbrev ◌is◌ : {A : Type 0} → A → A → Example A
asked is answer = record { asked = asked; answer = answer }

abbrev table : List (Example ℕ)
table =
    (bits_of (quotient (pos 512) 26 0) is 0x3fe0_0000_0000_0000)  -- 0.5
    ∷ (bits_of (quotient (pos 1) 16 0) is 0x3ff0_0000_0000_0000)  -- 1.0
    ∷ (bits_of (quotient (negsuc 0) 16 0) is 0xbff0_0000_0000_0000)  -- -1.0
    ∷ (bits_of (quotient (pos 0) 0 2047) is 0x0000_0000_0000_0000)  -- 0.0
    ∷ (bits_of (quotient (pos 65535) 0 0) is 0x41ef_ffe0_0000_0000)  -- 4294901760.0
    ∷ (bits_of (quotient (negsuc 32767) 0 0) is 0xc1e0_0000_0000_0000)  -- -2147483648.0
    ∷ (bits_of (quotient (pos 1) 26 1952) is 0x3f40_624d_d2f1_a9fc)  -- 0.0005, whose scale is 2000
    ∷ (bits_of (quotient (pos 3) 26 1952) is 0x3f58_9374_bc6a_7efa)  -- 0.0015
    ∷ (bits_of (quotient (pos 3199) 22 1151) is 0x4040_0000_0000_0000)  -- 32.0
    ∷ (bits_of (quotient (negsuc 32767) 31 2047) is 0xbfe0_0100_1001_0010)  -- -0.5001221001221001
    ∷ (bits_of (quotient (pos 1) 31 2047) is 0x3ef0_0100_1001_0010)  -- 1.5262515262515263e-05
    ∷ []

pub examples : map (λ e. e.asked) table ≡ map (λ e. e.answer) table
unfolding quotient div of_int of_bits to_bits
examples = refl

-- ---- Answers

abbrev double : ℕ → Answer
double bits = value (of_bits binary64 bits)

-- the scaling value with this E and F; and none, a number without its flag
abbrev scaling : ℕ → ℕ → Attribute
scaling e f = record { given = true; number = pos (2048 * e + f) }

abbrev none : Attribute
none = record { given = false; number = pos 7 }

abbrev answers : List (Example Answer)
answers =
    (reading (pos 1) 26 1952 is double 0x3f40_624d_d2f1_a9fc)
    ∷ (reading (pos 65536) 0 0 is outside Raw)  -- the ranges' ends
    ∷ (reading (negsuc 32768) 0 0 is outside Raw)
    ∷ (reading (pos 1) 32 0 is outside Exponent)
    ∷ (reading (pos 1) 0 2048 is outside Fraction)
    ∷ (place_reading Absent none is absent)  -- places
    ∷ (place_reading Constant (scaling 26 1952) is double 0x3f40_624d_d2f1_a9fc)
    ∷ (place_reading (Number (negsuc 0)) (scaling 16 0) is double 0xbff0_0000_0000_0000)
    ∷ (place_reading (Number (pos 0)) (scaling 26 1952) is double 0)
    ∷ (place_reading (Number (pos 65536)) (scaling 16 0) is outside Raw)
    ∷ (place_reading (Number (pos 1)) (record { given = true; number = negsuc 0 }) is outside Exponent)
    ∷ (place_reading Constant none is uncalibrated)
    ∷ (place_reading (Number (pos 65536)) none is uncalibrated)
    ∷ []

pub answered : map (λ e. e.asked) answers ≡ map (λ e. e.answer) answers
unfolding
    quotient div of_int of_bits
    numbers scaled_numbers first_misfit or_else require read_where calibration.reading reading_by scaled_reading calibration.place_reading
answered = refl
