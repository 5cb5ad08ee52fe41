-- One flag of each channel, made by calls of a closure at each place.
use mathlib.Core.Path.{◌≡◌, refl, sym, subst, ◌∙◌}
use mathlib.Core.Bool.{Bool}
use mathlib.Core.List.{List, map}
use Prim.Native.Nat.{ℕ, zero, suc, ◌+◌, ◌<◌}
use native.Mathlib.Omega.{arith}
use native.Mathlib.Nat.{zero-add}
use lib.ListN.{length, get_or}
use denote.Param.Members.{Mut, Called}
use Rattle.std.specs.Array.{IsFromFnResult, IsFromFnResultFrom}
use Rattle.std.proofs.lemmas.List.{same_lists, length-map, get_or-map}
use Rattle.channels.specs.declared.Descriptor.{Descriptor}
use Rattle.channels.specs.Descriptors.{absent}

module _ {F : Type 0} (g : Mut F (ℕ × Unit {0}) Bool) (f : F) (flag : Descriptor → Bool) (ds : List Descriptor)
    (calls : (i : ℕ) (r : Bool) (q : F) → i < length ds → Called g f (i, tt) r q → (r ≡ flag (get_or ds i absent)) × (q ≡ f)) where
  -- a closure that changes nothing is the same at each call
  flag-at : (p : F) (flags : List Bool) (i m k : ℕ) (d : Bool) → p ≡ f → i + m ≡ length ds → k < m → IsFromFnResultFrom g p flags i m → get_or flags (i + k) d ≡ flag (get_or ds (i + k) absent)
  flag-at p flags i zero k d e h q made = absurd (omega arith)
  flag-at p flags i (suc m) zero d e h q made =
      let z : i + 0 ≡ i = omega arith in
      rw z (made.2.1 d ∙ (calls i made.1 made.0 (omega arith) (subst (λ w. Called g w (i, tt) made.1 made.0) e made.3)).0)
  flag-at p flags i (suc m) (suc k) d e h q made =
      let z : i + suc k ≡ i + 1 + k = omega arith in
      let s = (calls i made.1 made.0 (omega arith) (subst (λ w. Called g w (i, tt) made.1 made.0) e made.3)).1 in
      rw z (flag-at made.0 flags (i + 1) m k d s (omega arith) (omega arith) made.4)

  pub flagged : (flags : List Bool) (n : ℕ) → length ds ≡ n → IsFromFnResult g f flags n → flags ≡ map flag ds
  flagged flags n e made =
      same_lists flags (map flag ds) (omega (arith, made.long, length-map ds flag))
      (λ k d h. rw zero-add at (flag-at f flags 0 n k d refl (omega arith) (omega (arith, made.long)) made.each) ∙ sym (get_or-map flag ds k absent d (omega (arith, made.long))))
