-- What a reader reads, a writer wrote: an encoding of the values, and which values have one.
-- It is shown of a format part by part; then reading what was written, and writing what was read, hold of the whole.
use Rattle.std.specs.Prelude.{◌≡◌, Bool, cond, take, drop}
use Rattle.std.proofs.Math.Path.{refl, sym, ap, ap₂}
use Rattle.std.proofs.Common.{◌∙◌, arith, take_all}
use Rattle.std.proofs.Math.Bool.{true, false}
use mathlib.Core.List.{List, [], ◌∷◌, ◌++◌}
use Prim.Native.Nat.{ℕ, suc, ◌<◌}
use Rattle.std.proofs.Math.ListN.{length}
use Rattle.formats.specs.Bytes.{Bytes, bytes-nil, bytes-cons, impossible}
use Rattle.formats.specs.Reader.{Test, Reader, done, Answer, ok, bad, next, run, one}
use Rattle.formats.specs.Law.{Reads, run-pass}

pub empty : {A : Type 0} (s : List A) → length s ≡ 0 → s ≡ []
empty s h = sym (take_all 0 s (omega arith))

-- The strings that r takes are the encodings of the valid values.
pub record Writes {A : Type 0} (r : Reader A) (encode : A → List ℕ) (Valid : A → Type 0) : Type 0 where
  pub reads : (v : A) → Valid v → Reads r (encode v) v
  pub bytes : (v : A) → Valid v → Bytes (encode v)
  pub only : (b : List ℕ) {v : A} → Bytes b → Reads r b v → Valid v × (b ≡ encode v)

-- a string of two parts
module _ {A B : Type 0} (r : Reader A) (k : A → Reader B) where
  pub record Split (b : List ℕ) (w : B) : Type 0 where
    pub value : A
    pub size : ℕ
    pub first : Reads r (take size b) value
    pub second : Reads (k value) (drop size b) w

-- ---- Part by part

pub writes-done : {A : Type 0} (v : A) → Writes (done v) (λ u. []) (λ u. v ≡ u)
unfolding run
writes-done v = record {
  reads = λ u h. ap (λ x. ok x 0) h;
  bytes = λ u h. bytes-nil;
  only = λ b g e. (cc, empty b (cc));
}

module _ (c : Test) where
  one_only : (b : List ℕ) {v : ℕ} → Bytes b → Reads (one c) b v → ((v < 256) × (c.holds v ≡ true)) × (b ≡ v ∷ [])
  unfolding run one next
  one_only [] g e = impossible (cc)
  one_only (x ∷ s) {v} g e = go (c.holds x) refl e
    where
      go : (t : Bool) → c.holds x ≡ t → elim t as (λ y. Answer ℕ) [ true ↦ ok x 1 | false ↦ bad c.fault 0 ] ≡ ok v (suc (length s))
          → ((v < 256) × (c.holds v ≡ true)) × (x ∷ s ≡ v ∷ [])
      go true h q =
          let a : x ≡ v = cc in
          let n : length s ≡ 0 = cc in
          ((rw a at (g 0), rw a at h), ap₂ ◌∷◌ a (empty s n))
      go false h q = impossible (cc)

  pub writes_one : Writes (one c) (λ b. b ∷ []) (λ b. (b < 256) × (c.holds b ≡ true))
  unfolding run one next
  writes_one = record {
    reads = λ b h. run-pass c done b [] h.1;
    bytes = λ b h. bytes-cons [] h.0 bytes-nil;
    only = one_only;
  }

-- the same, said otherwise
pub writes_as : {A : Type 0} {r : Reader A} {encode encode' : A → List ℕ} {Valid Valid' : A → Type 0} → Writes r encode Valid
    → ((v : A) → Valid v → Valid' v × (encode v ≡ encode' v)) → ((v : A) → Valid' v → Valid v) → Writes r encode' Valid'
writes_as w to from = record {
  reads = λ v h. rw (to v (from v h)).1 at (w.reads v (from v h));
  bytes = λ v h. rw (to v (from v h)).1 at (w.bytes v (from v h));
  only = λ b {v} g e. let x = w.only b g e in ((to v x.0).0, x.1 ∙ (to v x.0).1);
}

-- a reader that a test chose
pub writes-cond : {A : Type 0} {r r' : Reader A} {encode encode' : A → List ℕ} {Valid Valid' : A → Type 0} (t : Bool)
    → (t ≡ true → Writes r encode Valid) → (t ≡ false → Writes r' encode' Valid') → Writes (cond t r r') (cond t encode encode') (cond t Valid Valid')
writes-cond true w w' = w refl
writes-cond false w w' = w' refl

-- n values, one after the other
abbrev pub All : {A : Type 0} → (A → Type 0) → List A → Type 0
All P [] = Unit {0}
All P (v ∷ vs) = P v × All P vs

pub all_append : {A : Type 0} (P : A → Type 0) (l m : List A) → All P l → All P m → All P (l ++ m)
all_append P [] m h g = g
all_append P (v ∷ l) m h g = (h.0, all_append P l m h.1 g)

-- a value for each i of a list
abbrev pub Each : {I A : Type 0} → (I → A → Type 0) → List I → List A → Type 0
Each P [] [] = Unit {0}
Each P [] (v ∷ vs) = ⊥
Each P (i ∷ l) [] = ⊥
Each P (i ∷ l) (v ∷ vs) = P i v × Each P l vs

unfoldable pub encode_each : {I A : Type 0} → (I → A → List ℕ) → List I → List A → List ℕ
encode_each encode [] vs = []
encode_each encode (i ∷ l) [] = []
encode_each encode (i ∷ l) (v ∷ vs) = encode i v ++ encode_each encode l vs
