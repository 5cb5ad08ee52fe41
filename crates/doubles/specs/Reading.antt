-- A reading as a double: the answers of the two functions, and what is promised of each double among them.
use Rattle.std.specs.Prelude.{ℕ, ◌<◌, ℤ, Float, Result, Ok, Err, Option, Some, None}
use Rattle.channels.specs.declared.Attribute.{Attribute}
use Rattle.channels.specs.declared.Place.{Place}
use Rattle.calibration.specs.Reading as calibration
use Rattle.calibration.specs.Reading.{value, absent, refused, raw_of, exponent_by, fraction_by}
use Rattle.doubles.specs.Double.{exponent}
use Rattle.doubles.specs.Quotient.{bits_of, quotient, Quotient}
use Rattle.refusals.specs.declared.Refusal.{Refusal}

-- ---- The answer: that of `calibration`, whose division gives doubles

abbrev pub Answer : Type 0
Answer = calibration.Answer Float

-- to_double
abbrev pub reading : (raw : ℤ) (e f : ℕ) → Answer
reading = calibration.reading quotient

-- place_double
abbrev pub place_reading : (place : Place) (scaling : Attribute) → Answer
place_reading = calibration.place_reading quotient

-- ---- What the code's answers say

abbrev pub told : Result Float Refusal → Answer
told (Ok x) = value x
told (Err refusal) = refused refusal

abbrev pub told_place : Option (Result Float Refusal) → Answer
told_place None = absent
told_place (Some r) = told r

-- ---- A double that is answered is the quotient promised

-- of raw, by E and F
abbrev pub Exactly : (raw : ℤ) (e f : ℕ) → Result Float Refusal → Type 0
Exactly raw e f (Ok x) = Quotient raw e f x
Exactly raw e f (Err refusal) = Unit {0}

-- of what a place is read as, by E and F of its channel's scaling value
abbrev pub PlacedExactly : (place : Place) (scaling : Attribute) → Option (Result Float Refusal) → Type 0
PlacedExactly place scaling None = Unit {0}
PlacedExactly place scaling (Some r) = Exactly (raw_of place) (exponent_by scaling) (fraction_by scaling) r

-- ---- What is answered is a number, neither an infinity nor a NaN: so its bits may be asked for

abbrev pub IsNumber : Result Float Refusal → Type 0
IsNumber (Ok x) = exponent (bits_of x) < 2047
IsNumber (Err refusal) = Unit {0}
