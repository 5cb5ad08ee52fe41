-- The readings that document 01 gives beside P12, which the crate `examples` has; what a place of a point reads as; and that it does not without a scaling value.
use Rattle.std.specs.Prelude.{◌≡◌, refl, true, false, List, [], ◌∷◌, map, ℕ, ◌+◌, ◌*◌, ℤ, pos, negsuc}
use Rattle.refusals.specs.Stages.{require, or_else}
use Rattle.refusals.specs.Ranges.{first_misfit}
use Rattle.refusals.specs.declared.Quantity.TheVariants.{Raw, Exponent, Fraction}
use Rattle.channels.specs.declared.Attribute.{Attribute}
use Rattle.channels.specs.declared.Place.TheVariants.{Absent, Constant, Number}
use Rattle.calibration.specs.Reading as calibration
use Rattle.calibration.specs.Reading.{value, absent, uncalibrated}
use Rattle.calibration.specs.Naming.{outside}
use Rattle.readings.specs.Thousandths.{Answer, nearest, thousandths, reading, place_reading}

record Example : Type 0 where
  asked : Answer
  answer : Answer

infix 20 ◌is◌
abbrev ◌is◌ : Answer → Answer → Example
asked is answer = record { asked = asked; answer = answer }

-- the scaling value with this E and F; and none, a number without its flag
abbrev scaling : ℕ → ℕ → Attribute
scaling e f = record { given = true; number = pos (2048 * e + f) }

abbrev none : ℤ → Attribute
none number = record { given = false; number = number }

abbrev table : List Example
table =
    (reading (pos 3199) 22 1151 is value (pos 32000))  -- the scale is 99.96875
    ∷ (reading (pos 512) 26 0 is value (pos 500))
    ∷ (reading (pos 65535) 0 0 is value (pos 4294901760000))
    ∷ (reading (negsuc 32767) 31 2047 is value (negsuc 499))  -- the scale is 65520
    ∷ (reading (pos 65536) 0 0 is outside Raw)  -- the ranges' ends
    ∷ (reading (negsuc 32768) 0 0 is outside Raw)
    ∷ (reading (pos 1) 32 0 is outside Exponent)
    ∷ (reading (pos 1) 0 2048 is outside Fraction)
    ∷ (reading (pos 65536) 32 2048 is outside Raw)  -- request L2: the first of raw, E and F
    ∷ (reading (pos 65535) 32 2048 is outside Exponent)
    ∷ (place_reading Absent (scaling 26 1952) is absent)  -- places
    ∷ (place_reading Absent (record { given = true; number = negsuc 0 }) is absent)
    ∷ (place_reading Constant (scaling 26 1952) is value (pos 1))
    ∷ (place_reading (Number (negsuc 0)) (scaling 26 1952) is value (negsuc 0))
    ∷ (place_reading (Number (pos 1)) (scaling 0 0) is value (pos 65536000))  -- scaling 0 is a value
    ∷ (place_reading (Number (pos 1)) (record { given = true; number = pos 65536 }) is outside Exponent)
    ∷ (place_reading (Number (pos 1)) (record { given = true; number = negsuc 0 }) is outside Exponent)
    ∷ (place_reading (Number (pos 70000)) (record { given = true; number = negsuc 0 }) is outside Raw)  -- raw is judged before it
    ∷ (place_reading Constant (record { given = true; number = negsuc 0 }) is outside Exponent)
    ∷ (place_reading Absent (none (pos 0)) is absent)  -- request L3
    ∷ (place_reading Constant (none (pos 0)) is uncalibrated)
    ∷ (place_reading (Number (negsuc 4)) (none (pos 0)) is uncalibrated)
    ∷ (place_reading (Number (pos 65536)) (none (pos 0)) is uncalibrated)
    ∷ (place_reading (Number (pos 3)) (none (pos 55200)) is uncalibrated)
    ∷ (place_reading Constant (none (negsuc 0)) is uncalibrated)
    ∷ []

pub examples : map (λ e. e.asked) table ≡ map (λ e. e.answer) table
unfolding nearest thousandths calibration.numbers calibration.scaled_numbers first_misfit or_else require calibration.read_where calibration.reading calibration.reading_by calibration.scaled_reading calibration.place_reading
examples = refl
