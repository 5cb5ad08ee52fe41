-- Which number refusal 12 of a reading names (request L2): what is claimed, whatever the division gives.
use Rattle.std.specs.Prelude.{◌≡◌, ◌↔◌, true, ℕ, ℤ, pos}
use Rattle.refusals.specs.Ranges.{FirstOutside}
use Rattle.refusals.specs.declared.Quantity.{Quantity}
use Rattle.refusals.specs.declared.Refusal.TheVariants.{OutOfRange}
use Rattle.channels.specs.declared.Attribute.{Attribute}
use Rattle.channels.specs.declared.Place.{Place}
use Rattle.channels.specs.declared.Place.TheVariants.{Absent, Constant, Number}
use Rattle.calibration.specs.Reading.{Answer, refused, numbers, scaled_numbers, reading, place_reading}

-- refusal 12, by the name of the number
abbrev pub outside : {A : Type 0} → Quantity → Answer A
outside name = refused (OutOfRange name)

-- the raw number that a place is read as, with a scaling value that is given: of the two, the first that is out of its range
abbrev pub FirstOfPlace : (place : Place) (scaling : Attribute) → Quantity → Type 0
FirstOfPlace Absent scaling name = ⊥
FirstOfPlace Constant scaling name = (scaling.given ≡ true) × FirstOutside (scaled_numbers (pos 1) scaling.number) name
FirstOfPlace (Number raw) scaling name = (scaling.given ≡ true) × FirstOutside (scaled_numbers raw scaling.number) name

-- ---- The claims

module _ {A : Type 0} (divided : (raw : ℤ) (e f : ℕ) → A) where
  -- of raw, E and F, the first that is out of its range is named, and no other
  abbrev pub NamesFirst : Type 0
  NamesFirst = (raw : ℤ) (e f : ℕ) (name : Quantity) → (outside name ≡ reading divided raw e f) ↔ FirstOutside (numbers raw e f) name

  abbrev pub PlaceNamesFirst : Type 0
  PlaceNamesFirst = (place : Place) (scaling : Attribute) (name : Quantity) → (outside name ≡ place_reading divided place scaling) ↔ FirstOfPlace place scaling name
