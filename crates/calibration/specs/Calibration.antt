-- Calibration (request L3): what is claimed of a channel that has no scaling value. Its flag is clear, whatever number stands there.
use Rattle.std.specs.Prelude.{◌≡◌, ◌↔◌, ◌≢◌, true, false, ℕ, ℤ}
use Rattle.channels.specs.declared.Attribute.{Attribute}
use Rattle.channels.specs.declared.Place.{Place}
use Rattle.channels.specs.declared.Place.TheVariants.{Absent}
use Rattle.calibration.specs.Reading.{value, uncalibrated, place_reading}

-- ---- The claims, of readings whatever the division gives

module _ {A : Type 0} (divided : (raw : ℤ) (e f : ℕ) → A) where
  -- 20 is answered of every place that is not absent where the channel has no scaling value, and of no other
  abbrev pub UncalibratedExactly : Type 0
  UncalibratedExactly = (place : Place) (scaling : Attribute) → (uncalibrated ≡ place_reading divided place scaling) ↔ ((place ≢ Absent) × (scaling.given ≡ false))

  -- a place, constant or a number, has a reading only where the channel has a scaling value
  abbrev pub CalibratedOnly : Type 0
  CalibratedOnly = (place : Place) (scaling : Attribute) (x : A) → value x ≡ place_reading divided place scaling → scaling.given ≡ true
