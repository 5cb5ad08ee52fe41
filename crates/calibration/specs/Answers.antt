-- No second answer meets a promise: answers that say the same are the same.
use Rattle.std.specs.Prelude.{◌≡◌, refl, ℕ, ℤ, Result, Ok, Err, Option, Some, None}
use Rattle.std.proofs.Common.{sym, ap, ◌∙◌}
use Rattle.formats.specs.Bytes.{impossible}
use Rattle.formats.specs.OneAnswer.{OneAnswer, named}
use Rattle.refusals.specs.Ranges.{first_misfit}
use Rattle.channels.specs.declared.Attribute.{Attribute}
use Rattle.channels.specs.declared.Place.{Place}
use Rattle.calibration.specs.Reading.{numbers, place_reading, operands, told}
use Rattle.calibration.specs.declared.Scaled.{Scaled}
use Rattle.refusals.specs.declared.Refusal.{Refusal}

same : (r q : Option (Result Scaled Refusal)) → told r ≡ told q → r ≡ q
same None None e = refl
same None (Some (Err g)) e = impossible (cc)
same None (Some (Ok t)) e = impossible (cc)
same (Some (Err f)) None e = impossible (cc)
same (Some (Err f)) (Some (Err g)) e = ap (λ x. Some (Err x)) (cc)
same (Some (Err f)) (Some (Ok t)) e = impossible (cc)
same (Some (Ok s)) None e = impossible (cc)
same (Some (Ok s)) (Some (Err g)) e = impossible (cc)
same (Some (Ok s)) (Some (Ok t)) e = ap (λ x. Some (Ok x)) (cc)

pub judge-one : (raw : ℤ) (e f : ℕ) → OneAnswer (λ r. r ≡ first_misfit (numbers raw e f))
judge-one raw e f = named

pub calibrate-one : (place : Place) (scaling : Attribute) → OneAnswer (λ r. told r ≡ place_reading operands place scaling)
calibrate-one place scaling r q h k = same r q (h ∙ sym k)
