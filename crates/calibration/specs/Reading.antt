-- A reading: the stored value divided by the scaling value (7.3.4.3), as document 01 has it, whatever the division gives; without a scaling value there is none, as request L3 has it.
use Rattle.std.specs.Prelude.{cond, ◌&&◌, List, [], ◌∷◌, ℕ, ◌/◌, ◌%◌, ◌≤◌, ℤ, pos, negsuc, nat_abs, leb, Result, Ok, Err, Option, Some, None, ⊤}
use Rattle.std.specs.Int.Signed.{le_z}
use Rattle.refusals.specs.Ranges.{Ranged, ◌fits_if◌, first_misfit}
use Rattle.refusals.specs.declared.Quantity.TheVariants.{Raw, Exponent, Fraction}
use Rattle.refusals.specs.declared.Refusal.{Refusal}
use Rattle.refusals.specs.declared.Refusal.TheVariants.{Uncalibrated}
use Rattle.channels.specs.declared.Attribute.{Attribute}
use Rattle.channels.specs.declared.Place as place
use Rattle.calibration.specs.declared.Scaled.{Scaled}

-- ---- The numbers that it is made of, in the order in which they are judged (request L2)

-- raw is from -32768 to 65535
abbrev pub raw_number : ℤ → Ranged
raw_number raw = Raw fits_if (le_z (negsuc 32767) raw && le_z raw (pos 65535))

-- E is to 31, F to 2047
unfoldable pub numbers : (raw : ℤ) (e f : ℕ) → List Ranged
numbers raw e f = raw_number raw ∷ (Exponent fits_if leb e 31) ∷ (Fraction fits_if leb f 2047) ∷ []

-- a scaling value is one number, 2048 · E + F, from 0 to 65535: what is out of that range is named E
unfoldable pub scaled_numbers : (raw number : ℤ) → List Ranged
scaled_numbers raw number = raw_number raw ∷ (Exponent fits_if (le_z (pos 0) number && le_z number (pos 65535))) ∷ []

-- E and F of a scaling value
abbrev pub exponent_of : ℕ → ℕ
exponent_of number = number / 2048

abbrev pub fraction_of : ℕ → ℕ
fraction_of number = number % 2048

-- what a division may take as given, where all are in their ranges
pub record InRange (raw : ℤ) (e f : ℕ) : Type 0 where
  pub size : nat_abs raw ≤ 65535
  pub exponent : e ≤ 31
  pub fraction : f ≤ 2047

-- ---- The answer: a value of what the division gives, thousandths or doubles

pub data Answer (A : Type 0) : Type 0 where
  value : A → Answer A
  absent : Answer A
  refused : Refusal → Answer A

-- a channel whose calibration is unknown, refusal 20
abbrev pub uncalibrated : {A : Type 0} → Answer A
uncalibrated = refused Uncalibrated

-- the value, where no number is out of its range
unfoldable pub read_where : {A : Type 0} → Result ⊤ Refusal → A → Answer A
read_where (Ok _) v = value v
read_where (Err refusal) v = refused refusal

module _ {A : Type 0} (divided : (raw : ℤ) (e f : ℕ) → A) where
  -- of raw, E and F
  unfoldable pub reading : (raw : ℤ) (e f : ℕ) → Answer A
  reading raw e f = read_where (first_misfit (numbers raw e f)) (divided raw e f)

  -- by a scaling value that is in its range, which has no sign
  unfoldable pub reading_by : (raw number : ℤ) → Answer A
  reading_by raw number = read_where (first_misfit (scaled_numbers raw number)) (divided raw (exponent_of (nat_abs number)) (fraction_of (nat_abs number)))

  -- "If the value of the scaling factor is absent, the calibration of the channel is taken to be unknown" (7.3.4.3): neither raw nor a number without its flag is looked at
  unfoldable pub scaled_reading : (raw : ℤ) (scaling : Attribute) → Answer A
  scaled_reading raw scaling = cond scaling.given (reading_by raw scaling.number) uncalibrated

  -- of a place of a point: absent stays absent, whatever the scaling value; a constant channel is read as raw 1
  unfoldable pub place_reading : (place : place.Place) (scaling : Attribute) → Answer A
  place_reading place.TheVariants.Absent scaling = absent
  place_reading place.TheVariants.Constant scaling = scaled_reading (pos 1) scaling
  place_reading (place.TheVariants.Number raw) scaling = scaled_reading raw scaling

-- what a place is read as, and E and F of a channel's scaling value. An absent place is not read, nor is one by a value below zero or by none, whatever these are
abbrev pub raw_of : place.Place → ℤ
raw_of place.TheVariants.Absent = pos 0
raw_of place.TheVariants.Constant = pos 1
raw_of (place.TheVariants.Number raw) = raw

abbrev pub exponent_by : Attribute → ℕ
exponent_by scaling = exponent_of (nat_abs scaling.number)

abbrev pub fraction_by : Attribute → ℕ
fraction_by scaling = fraction_of (nat_abs scaling.number)

-- ---- What the code's answers say: what is to be divided, before it is

abbrev pub operands : (raw : ℤ) (e f : ℕ) → Scaled
operands raw e f = record { raw = raw; exponent = e; fraction = f }

abbrev pub told : Option (Result Scaled Refusal) → Answer Scaled
told None = absent
told (Some (Err refusal)) = refused refusal
told (Some (Ok scaled)) = value scaled
