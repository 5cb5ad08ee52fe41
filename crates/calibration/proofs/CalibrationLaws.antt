-- A channel without a scaling value has no reading: the flag is asked before anything else, and what is read behind it is a value or 12.
use Rattle.std.specs.Prelude.{◌≡◌, ◌↔◌, ◌≢◌, Bool, List, [], ◌∷◌, ℕ, ℤ, pos}
use Rattle.std.proofs.Math.Path.{refl}
use Rattle.std.proofs.Common.{sym}
use Rattle.std.proofs.Math.Bool.{true, false, cond}
use Rattle.formats.specs.Bytes.{impossible}
use Rattle.refusals.specs.Stages.{require, or_else}
use Rattle.refusals.specs.Ranges.{Ranged, first_misfit}
use Rattle.refusals.specs.declared.Refusal.TheVariants.{OutOfRange}
use Rattle.channels.specs.declared.Attribute.{Attribute}
use Rattle.channels.specs.declared.Place.TheVariants.{Absent, Constant, Number}
use Rattle.calibration.specs.Reading.{value, uncalibrated, scaled_numbers, read_where, reading_by, scaled_reading, place_reading}
use Rattle.calibration.specs.Calibration.{UncalibratedExactly, CalibratedOnly}

-- ---- What is not 20

-- numbers that are judged are refused with 12
value-or-outside : {A : Type 0} (l : List Ranged) (x : A) → read_where (first_misfit l) x ≢ uncalibrated
unfolding first_misfit or_else require read_where
value-or-outside [] x h = impossible (cc)
value-or-outside {A} (number ∷ l) x h = go number.fits h (value-or-outside l x)
  where
    go : (t : Bool) → read_where (or_else (require t (OutOfRange number.name)) (first_misfit l)) x ≡ uncalibrated {A = A} → read_where (first_misfit l) x ≢ uncalibrated {A = A} → ⊥
    go true k rest = rest k
    go false k rest = impossible (cc)

module _ {A : Type 0} (divided : (raw : ℤ) (e f : ℕ) → A) where
  by-a-value : (raw number : ℤ) → reading_by divided raw number ≢ uncalibrated
  unfolding reading_by
  by-a-value raw number h = value-or-outside (scaled_numbers raw number) _ h

  -- ---- By the flag

  clear : (raw : ℤ) (scaling : Attribute) → scaling.given ≡ false → scaled_reading divided raw scaling ≡ uncalibrated
  unfolding scaled_reading
  clear raw scaling h = rw h

  only-clear : (raw : ℤ) (scaling : Attribute) → scaled_reading divided raw scaling ≡ uncalibrated → scaling.given ≡ false
  unfolding scaled_reading
  only-clear raw scaling h = go scaling.given h
    where
      go : (given : Bool) → cond given (reading_by divided raw scaling.number) uncalibrated ≡ uncalibrated → given ≡ false
      go true k = absurd (by-a-value raw scaling.number k)
      go false k = refl

  pub only-given : (raw : ℤ) (scaling : Attribute) (x : A) → value x ≡ scaled_reading divided raw scaling → scaling.given ≡ true
  unfolding scaled_reading
  only-given raw scaling x h = go scaling.given h
    where
      go : (given : Bool) → value x ≡ cond given (reading_by divided raw scaling.number) uncalibrated → given ≡ true
      go true k = refl
      go false k = impossible (cc)

  -- ---- The claims

  present : (raw : ℤ) (scaling : Attribute) {There : Type 0} → There → (uncalibrated ≡ scaled_reading divided raw scaling) ↔ (There × (scaling.given ≡ false))
  present raw scaling there = (λ h. (there, only-clear raw scaling (sym h)), λ h. sym (clear raw scaling h.1))

  pub uncalibrated-exactly : UncalibratedExactly divided
  unfolding place_reading
  uncalibrated-exactly Absent scaling = (λ h. impossible (cc), λ h. absurd (h.0 refl))
  uncalibrated-exactly Constant scaling = present (pos 1) scaling (λ e. impossible (cc))
  uncalibrated-exactly (Number raw) scaling = present raw scaling (λ e. impossible (cc))

  pub calibrated-only : CalibratedOnly divided
  unfolding place_reading
  calibrated-only Absent scaling x h = impossible (cc)
  calibrated-only Constant scaling x h = only-given (pos 1) scaling x h
  calibrated-only (Number raw) scaling x h = only-given raw scaling x h
