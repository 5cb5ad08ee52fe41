-- No second answer meets a promise: answers that say the same are the same.
use Rattle.std.specs.Prelude.{Float, ◌≡◌, refl, ℕ, ℤ, Result, Ok, Err, Option, Some, None}
use Rattle.std.proofs.Common.{sym, ap, ◌∙◌}
use Rattle.formats.specs.Bytes.{impossible}
use Rattle.formats.specs.OneAnswer.{OneAnswer}
use Rattle.channels.specs.declared.Attribute.{Attribute}
use Rattle.channels.specs.declared.Place.{Place}
use Rattle.doubles.specs.Reading.{told, told_place, Exactly, PlacedExactly, reading, place_reading}
use Rattle.refusals.specs.declared.Refusal.{Refusal}

same : (r q : Result Float Refusal) → told r ≡ told q → r ≡ q
same (Ok x) (Ok y) e = ap Ok (cc)
same (Ok x) (Err g) e = impossible (cc)
same (Err f) (Ok y) e = impossible (cc)
same (Err f) (Err g) e = ap Err (cc)

same_place : (r q : Option (Result Float Refusal)) → told_place r ≡ told_place q → r ≡ q
same_place None None e = refl
same_place None (Some (Ok y)) e = impossible (cc)
same_place None (Some (Err g)) e = impossible (cc)
same_place (Some (Ok x)) None e = impossible (cc)
same_place (Some (Err f)) None e = impossible (cc)
same_place (Some r) (Some q) e = ap Some (same r q e)

pub to-double-one : (raw : ℤ) (e f : ℕ) → OneAnswer (λ r. (told r ≡ reading raw e f) × Exactly raw e f r)
to-double-one raw e f r q h k = same r q (h.0 ∙ sym k.0)

pub place-double-one : (place : Place) (scaling : Attribute) → OneAnswer (λ r. (told_place r ≡ place_reading place scaling) × PlacedExactly place scaling r)
place-double-one place scaling r q h k = same_place r q (h.0 ∙ sym k.0)
