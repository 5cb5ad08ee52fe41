-- A list of parts, read into an array: what code has of the answer when it has read the first i of them.
use Rattle.std.specs.Prelude.{◌≡◌, ℕ, suc, ◌+◌, ◌≤◌, ◌<◌, length, drop, get_or, set}
use Rattle.std.proofs.Math.Path.{refl, sym, ap}
use Rattle.std.proofs.Common.{◌∙◌, add-one, drop_of_length-le, drop-cons}
use mathlib.Core.List.{List, [], ◌∷◌, ◌++◌, append-nil, append_assoc}
use Rattle.std.proofs.Math.ListN.{take}
use Rattle.std.proofs.Math.Seq.{take_all, take-suc-set}
use Rattle.formats.specs.Reader.{Reader, Answer, ok, short, bad, mapped, and_then, read_at, each}
use Rattle.formats.specs.Compose.{at_done, at_each}
use Rattle.formats.specs.Told.{failed, mapped-failed, then-failed}
use Rattle.formats.specs.declared.Failure.{Failure}

-- ---- Images

module _ {A B : Type 0} where
  pub mapped-same : (g h : A → B) → ((v : A) → g v ≡ h v) → (x : Answer A) → mapped g x ≡ mapped h x
  unfolding mapped
  mapped-same g h e (ok v n) = ap (λ u. ok u n) (e v)
  mapped-same g h e short = refl
  mapped-same g h e (bad k p) = refl

pub mapped-none : {A : Type 0} (x : Answer A) → mapped (λ v. v) x ≡ x
unfolding mapped
mapped-none (ok v n) = refl
mapped-none short = refl
mapped-none (bad k p) = refl

pub mapped-mapped : {A B C : Type 0} (h : B → C) (g : A → B) (x : Answer A) → mapped h (mapped g x) ≡ mapped (λ v. h (g v)) x
unfolding mapped
mapped-mapped h g (ok v n) = refl
mapped-mapped h g short = refl
mapped-mapped h g (bad k p) = refl

-- ---- Part by part

module _ {I A : Type 0} (l : List I) (f : I → Reader A) (s : List ℕ) (start : ℕ) where
  -- what all the parts answer from the start is what those from the ith on answer from here, with the first i of the array in front
  abbrev pub Gathered : (a : List A) (i at : ℕ) → Type 0
  Gathered a i at = read_at (each l f) s start ≡ mapped (λ vs. take i a ++ vs) (read_at (each (drop i l) f) s at)

  pub gathered_none : (a : List A) → Gathered a 0 start
  gathered_none a = sym (mapped-none (read_at (each l f) s start))

  -- the ith part: its answer, and then the rest
  module _ (d : I) (a : List A) (i at : ℕ) (h : i < length l) (g : Gathered a i at) where
    abbrev first : Answer A
    first = read_at (f (get_or l i d)) s at

    apart : read_at (each l f) s start ≡ mapped (λ vs. take i a ++ vs) (and_then first (λ v n. mapped (λ vs. v ∷ vs) (read_at (each (drop (suc i) l) f) s n)))
    apart = g ∙ ap (mapped (λ vs. take i a ++ vs)) (rw (drop-cons l i d h) (at_each s at (get_or l i d) (drop (suc i) l) f))

    pub gathered-more : {v : A} {n : ℕ} → i < length a → first ≡ ok v n → Gathered (set a i v) (i + 1) n
    unfolding and_then
    gathered-more {v} {n} q e =
        rw e at apart
        ∙ mapped-mapped (λ vs. take i a ++ vs) (λ vs. v ∷ vs) (read_at (each (drop (suc i) l) f) s n)
        ∙ rw (add-one i, take-suc-set a i v q) (mapped-same _ _ (λ vs. sym (append_assoc (take i a) (v ∷ []) vs)) (read_at (each (drop (suc i) l) f) s n))

    pub gathered-failed : (x : Failure) → first ≡ failed x → read_at (each l f) s start ≡ failed x
    gathered-failed x e = rw (e, then-failed, mapped-failed) at apart

  pub gathered-all : (a : List A) (i at : ℕ) → length l ≤ i → length a ≤ i → Gathered a i at → read_at (each l f) s start ≡ ok a at
  unfolding each mapped
  gathered-all a i at h q g =
      g
      ∙ rw (drop_of_length-le l {i = i} h, at_done {A = List A} [] s at, take_all i a q, append-nil)
