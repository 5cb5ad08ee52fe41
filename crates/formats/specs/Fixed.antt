-- Readers whose strings have one width: of many in a row the ith is found without those before it.
use Rattle.std.specs.Prelude.{◌≡◌, List, [], ◌∷◌, ℕ, zero, suc, ◌+◌, ◌≤◌, length}
use Rattle.std.proofs.Math.Path.{refl}
use Rattle.std.proofs.Common.{sym, ap, ◌∙◌, arith}
use Rattle.formats.specs.Bytes.{impossible}
use Rattle.formats.specs.Reader.{Reader, Answer, done, ok, short, bad, and_then, mapped, read_at, map, times}
use Rattle.formats.specs.Compose.{at_done, at_map, at-times}

-- whatever r takes of a string has w bytes
abbrev pub Fixed : {A : Type 0} → Reader A → ℕ → Type 0
Fixed {A} r w = (s : List ℕ) (at : ℕ) (v : A) (n : ℕ) → at ≤ length s → read_at r s at ≡ ok v n → n ≡ at + w

pub fixed-done : {A : Type 0} (v : A) → Fixed (done v) 0
fixed-done v s at u n h e = let z : n ≡ at = cc (at_done v s at) in omega arith

-- the answer of a part and the answer of the rest, from that of both
module _ {A : Type 0} (s : List ℕ) where
  pub record Parts (x : Answer A) (k : ℕ → Answer (List A)) (vs : List A) (n : ℕ) : Type 0 where
    pub head : A
    pub tail : List A
    pub place : ℕ
    pub first : x ≡ ok head place
    pub second : k place ≡ ok tail n
    pub whole : vs ≡ head ∷ tail

  parts-rest : (v : A) (m : ℕ) (k : ℕ → Answer (List A)) (y : Answer (List A)) {vs : List A} {n : ℕ} → k m ≡ y
      → mapped (λ us. v ∷ us) y ≡ ok vs n → Parts (ok v m) k vs n
  unfolding mapped
  parts-rest v m k (ok us j) q e = record { head = v; tail = us; place = m; first = refl; second = cc; whole = cc }
  parts-rest v m k short q e = impossible (cc)
  parts-rest v m k (bad j p) q e = impossible (cc)

  pub parts : (x : Answer A) (k : ℕ → Answer (List A)) {vs : List A} {n : ℕ} → and_then x (λ v m. mapped (λ us. v ∷ us) (k m)) ≡ ok vs n → Parts x k vs n
  unfolding and_then
  parts (ok v m) k e = parts-rest v m k (k m) refl e
  parts short k e = impossible (cc)
  parts (bad j p) k e = impossible (cc)

-- as many as were asked for
pub times-length : {A : Type 0} (r : Reader A) (s : List ℕ) (n at : ℕ) {vs : List A} {m : ℕ} → read_at (times n r) s at ≡ ok vs m → length vs ≡ n
unfolding times
times-length {A} r s zero at {vs} e =
    let z : read_at {A = List A} (done []) s at ≡ ok [] at = at_done [] s at in
    let x : vs ≡ [] = cc in
    ap length x
times-length r s (suc n) at e =
    let p = parts s (read_at r s at) (read_at (times n r) s) (sym (at-times s at n r) ∙ e) in
    ap length p.whole ∙ ap suc (times-length r s n p.place p.second)

pub fixed-map : {A B : Type 0} (g : A → B) (r : Reader A) (w : ℕ) → Fixed r w → Fixed (map g r) w
unfolding mapped
fixed-map {A} {B} g r w f s at v n h e = go (read_at r s at) refl (sym (at_map g r s at) ∙ e)
  where
    go : (x : Answer A) → read_at r s at ≡ x → mapped g x ≡ ok v n → n ≡ at + w
    go (ok u m) q z = let m-is : m ≡ n = cc in sym m-is ∙ f s at u m h q
    go short q z = impossible (cc)
    go (bad k p) q z = impossible (cc)
