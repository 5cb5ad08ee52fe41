-- Which bytes of a string a reader looks at.
use Rattle.std.specs.Prelude.{◌≡◌, true, false, List, [], ◌∷◌, ℕ, suc, ◌+◌, ◌-◌, ◌≤◌, ◌<◌, take, drop}
use Rattle.formats.specs.Reader.{Reader, done, byte}
use Rattle.formats.specs.declared.Failure.{Failure}
use Rattle.formats.specs.declared.Failure.TheVariants.{Short, Bad}

-- how many bytes a reader asks for, one after the other, on its walk along a string: the last may be one that it refuses, or one that isn't there
unfoldable pub asked : {A : Type 0} → Reader A → List ℕ → ℕ
asked (done v) s = 0
asked (byte c f) [] = 1
asked (byte c f) (b ∷ s) = elim (c.holds b) [ true ↦ suc (asked (f b) s) | false ↦ 1 ]

-- the bytes that it looks at from a place of a string on: those that it asks for and that are there
unfoldable pub seen : {A : Type 0} → Reader A → List ℕ → (at : ℕ) → List ℕ
seen r s at = take (asked r (drop at s)) (drop at s)

-- another string is the same to it, whatever their other bytes: it has the bytes that are looked at, and no more where the first ends too soon
unfoldable pub Same : {A : Type 0} → Reader A → (s t : List ℕ) → (at : ℕ) → Type 0
Same r s t at = seen r s at ≡ take (asked r (drop at s)) (drop at t)

-- how many that is where reading failed, of a string of some size: as many as are there, or up to and with the byte that is refused
abbrev pub failed_sight : (size at : ℕ) → Failure → ℕ
failed_sight size at Short = size - at
failed_sight size at (Bad k p) = p - at + 1

-- a byte that is refused is there
abbrev pub FailedWithin : (size at : ℕ) → Failure → Type 0
FailedWithin size at Short = Unit {0}
FailedWithin size at (Bad k p) = (at ≤ p) × (p < size)
