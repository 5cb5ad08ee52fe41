-- Records that reach equally far say the same: of two extents that are one, each of the three.
use Rattle.std.specs.Prelude.{◌≡◌, Bool, ℕ, Result, Ok, Err}
use Rattle.std.proofs.Common.{ap}
use Rattle.refusals.specs.declared.Refusal.{Refusal}
use Rattle.record_reading.specs.declared.Extent.{Extent}

abbrev pub extent : (length count : ℕ) (extended : Bool) → Result Extent Refusal
extent length count extended = Ok (record { length = length; count = count; extended = extended })

abbrev length_of : Result Extent Refusal → ℕ
length_of (Ok x) = x.length
length_of (Err refusal) = 0

abbrev count_of : Result Extent Refusal → ℕ
count_of (Ok x) = x.count
count_of (Err refusal) = 0

abbrev extended_of : Bool → Result Extent Refusal → Bool
extended_of t (Ok x) = x.extended
extended_of t (Err refusal) = t

pub one_extent : {x y : Extent} → ◌≡◌ {A = Result Extent Refusal} (Ok x) (Ok y) → x ≡ y
one_extent e = cc

pub same_extent : {n m k j : ℕ} {t u : Bool} → extent n k t ≡ extent m j u → (n ≡ m) × (k ≡ j) × (t ≡ u)
same_extent {t} e = (ap length_of e, ap count_of e, ap (extended_of t) e)
