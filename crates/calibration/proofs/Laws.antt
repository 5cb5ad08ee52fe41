-- What follows for readings, whatever the division gives: that a scaling value is read by what it is taken apart into; that a value is the division's, of numbers in their ranges; and that a place is read by dividing its operands.
use Rattle.std.specs.Prelude.{◌≡◌, Bool, ◌&&◌, ℕ, ℤ, pos, negsuc, nat_abs, Result, Ok, Err, ⊤}
use Rattle.std.proofs.Math.Path.{refl}
use Rattle.std.proofs.Common.{sym, ◌∙◌, subst, arith}
use Rattle.std.proofs.Math.Bool.{true, false, cond}
use Rattle.std.proofs.Math.Dec.{leb-zero}
use Rattle.std.specs.Int.Signed.{le_z}
use borrow.Author.Tests.{le-leb}
use Rattle.formats.specs.Bytes.{impossible}
use Rattle.refusals.specs.Stages.{require, or_else}
use Rattle.refusals.specs.Ranges.{first_misfit}
use Rattle.channels.specs.declared.Attribute.{Attribute}
use Rattle.channels.specs.declared.Place.{Place}
use Rattle.channels.specs.declared.Place.TheVariants.{Absent, Constant, Number}
use Rattle.calibration.specs.declared.Scaled.{Scaled}
use Rattle.calibration.proofs.CalibrationLaws.{only-given}
use Rattle.calibration.specs.Reading.{numbers, scaled_numbers, exponent_of, fraction_of, InRange, value, uncalibrated, read_where, reading, reading_by, scaled_reading, place_reading, raw_of, exponent_by, fraction_by, operands}
use Rattle.calibration.specs.Laws.{same-range, passed-in-range, refuses, Divides, divide, divided-where}
use Rattle.refusals.specs.declared.Refusal.{Refusal}

-- ---- Whatever the division gives

module _ {A : Type 0} (divided : (raw : ℤ) (e f : ℕ) → A) where
  -- what is said by a scaling value is what is said by its E and F
  pub by-exponent-and-fraction : (raw : ℤ) (number : ℕ) → reading_by divided raw (pos number) ≡ reading divided raw (exponent_of number) (fraction_of number)
  unfolding reading_by reading scaled_numbers numbers first_misfit or_else require
  by-exponent-and-fraction raw number = rw (leb-zero number, same-range number, le-leb (fraction_of number) 2047 (omega arith))

  -- by one below zero, what is said by any E that is out of range
  pub by-one-below-zero : (raw : ℤ) (n : ℕ) → reading_by divided raw (negsuc n) ≡ reading divided raw 32 0
  unfolding reading_by reading scaled_numbers numbers first_misfit or_else require
  by-one-below-zero raw n = refuses (le_z (negsuc 32767) raw && le_z raw (pos 65535)) _ _

  -- ---- A value that is read is the division's, of numbers in their ranges

  pub value_read : (raw : ℤ) (e f : ℕ) (x : A) → value x ≡ reading divided raw e f → Divides divided raw e f x
  unfolding reading read_where
  value_read raw e f x h = go (first_misfit (numbers raw e f)) refl h
    where
      go : (j : Result ⊤ Refusal) → first_misfit (numbers raw e f) ≡ j → value x ≡ read_where j (divided raw e f) → Divides divided raw e f x
      go (Ok _) m k = record { is = cc; in-range = passed-in-range raw e f m }
      go (Err refusal) m k = impossible (cc)

  by_number : (raw number : ℤ) (x : A) → value x ≡ reading_by divided raw number → Divides divided raw (exponent_of (nat_abs number)) (fraction_of (nat_abs number)) x
  by_number raw (pos number) x h = value_read raw (exponent_of number) (fraction_of number) x (h ∙ by-exponent-and-fraction raw number)
  by_number raw (negsuc n) x h = let l = (value_read raw 32 0 x (h ∙ by-one-below-zero raw n)).in-range.exponent in absurd (omega arith)

  by-scaling : (raw : ℤ) (scaling : Attribute) (x : A) → value x ≡ scaled_reading divided raw scaling → Divides divided raw (exponent_by scaling) (fraction_by scaling) x
  unfolding scaled_reading
  by-scaling raw scaling x h = by_number raw scaling.number x (rw (only-given divided raw scaling x h) at h)

  pub value-placed : (place : Place) (scaling : Attribute) (x : A) → value x ≡ place_reading divided place scaling → Divides divided (raw_of place) (exponent_by scaling) (fraction_by scaling) x
  unfolding place_reading
  value-placed Absent scaling x h = impossible (cc)
  value-placed Constant scaling x h = by-scaling (pos 1) scaling x h
  value-placed (Number raw) scaling x h = by-scaling raw scaling x h

  -- ---- To read a place is to divide its operands, where there are any

  divided-scaled : (raw : ℤ) (scaling : Attribute) → divide divided (scaled_reading operands raw scaling) ≡ scaled_reading divided raw scaling
  unfolding scaled_reading reading_by divide
  divided-scaled raw scaling = go scaling.given
    where
      go : (given : Bool) → divide divided (cond given (reading_by operands raw scaling.number) uncalibrated) ≡ cond given (reading_by divided raw scaling.number) uncalibrated
      go true = divided-where divided (first_misfit (scaled_numbers raw scaling.number)) raw (exponent_by scaling) (fraction_by scaling)
      go false = refl

  pub divided-placed : (place : Place) (scaling : Attribute) → divide divided (place_reading operands place scaling) ≡ place_reading divided place scaling
  unfolding place_reading divide
  divided-placed Absent scaling = refl
  divided-placed Constant scaling = divided-scaled (pos 1) scaling
  divided-placed (Number raw) scaling = divided-scaled raw scaling

-- ---- The operands of a place are in their ranges

pub operands-in-range : (place : Place) (scaling : Attribute) (scaled : Scaled) → value scaled ≡ place_reading operands place scaling → InRange scaled.raw scaled.exponent scaled.fraction
operands-in-range place scaling scaled h =
    let d = value-placed operands place scaling scaled h in
    subst (λ (s : Scaled). InRange s.raw s.exponent s.fraction) (sym d.is) d.in-range
