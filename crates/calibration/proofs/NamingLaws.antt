-- What a reading's 12 names is the first number out of its range: a value is said where none is, and else what the numbers say.
use Rattle.std.specs.Prelude.{◌≡◌, ◌↔◌, Bool, List, ℕ, ℤ, pos, Result, Ok, Err, ⊤}
use Rattle.std.proofs.Math.Path.{refl, sym}
use Rattle.std.proofs.Common.{ap}
use Rattle.std.proofs.Math.Bool.{true, false, cond}
use Rattle.formats.specs.Bytes.{impossible}
use Rattle.refusals.specs.Ranges.{Ranged, first_misfit, FirstOutside}
use Rattle.refusals.proofs.RangeLaws.{named-first, first-named}
use Rattle.refusals.specs.declared.Quantity.{Quantity}
use Rattle.refusals.specs.declared.Refusal.{Refusal}
use Rattle.refusals.specs.declared.Refusal.TheVariants.{OutOfRange}
use Rattle.channels.specs.declared.Attribute.{Attribute}
use Rattle.channels.specs.declared.Place.TheVariants.{Absent, Constant, Number}
use Rattle.calibration.specs.Reading.{refused, uncalibrated, numbers, scaled_numbers, read_where, reading, reading_by, scaled_reading, place_reading}
use Rattle.calibration.specs.Naming.{outside, NamesFirst, PlaceNamesFirst}

-- ---- Of some numbers

judged : {A : Type 0} (j : Result ⊤ Refusal) (x : A) (refusal : Refusal) → refused refusal ≡ read_where j x → j ≡ Err refusal
unfolding read_where
judged (Ok _) x refusal e = impossible (cc)
judged (Err other) x refusal e = ap Err (cc)

module _ {A : Type 0} (l : List Ranged) (x : A) (name : Quantity) where
  first : outside name ≡ read_where (first_misfit l) x → FirstOutside l name
  first e = named-first l name (judged (first_misfit l) x (OutOfRange name) e)

  said : FirstOutside l name → outside name ≡ read_where (first_misfit l) x
  unfolding read_where
  said h = sym (rw (first-named l name h))

-- ---- The claims

module _ {A : Type 0} (divided : (raw : ℤ) (e f : ℕ) → A) where
  pub names-first : NamesFirst divided
  unfolding reading
  names-first raw e f name = (first (numbers raw e f) _ name, said (numbers raw e f) _ name)

  -- without its flag a scaling value has no range
  of-scaled : (raw : ℤ) (scaling : Attribute) (name : Quantity) → (outside name ≡ scaled_reading divided raw scaling) ↔ ((scaling.given ≡ true) × FirstOutside (scaled_numbers raw scaling.number) name)
  unfolding scaled_reading reading_by
  of-scaled raw scaling name = (λ e. go scaling.given refl e, λ h. rw h.0 (said (scaled_numbers raw scaling.number) _ name h.1))
    where
      go : (t : Bool) → scaling.given ≡ t → outside name ≡ cond t (reading_by divided raw scaling.number) uncalibrated
          → (scaling.given ≡ true) × FirstOutside (scaled_numbers raw scaling.number) name
      go true g e = (g, first (scaled_numbers raw scaling.number) _ name e)
      go false g e = impossible (cc)

  pub place-names-first : PlaceNamesFirst divided
  unfolding place_reading
  place-names-first Absent scaling name = (λ e. impossible (cc), λ h. absurd h)
  place-names-first Constant scaling name = of-scaled (pos 1) scaling name
  place-names-first (Number raw) scaling name = of-scaled raw scaling name
