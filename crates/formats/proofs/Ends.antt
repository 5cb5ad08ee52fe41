-- Where reading ends: in the string that it starts in, and no earlier. So n equal parts are told as n steps are, and certain bytes as they are matched.
use Rattle.std.specs.Prelude.{◌≡◌, Bool, true, false, T, eqb, ltb, length, drop, get_or, Result, Ok, Err}
use Rattle.std.proofs.Math.Path.{refl, ap}
use Rattle.std.proofs.Common.{sym, ◌∙◌}
use Rattle.std.proofs.Math.Logic.{by_cases}
use mathlib.Core.List.{List, [], ◌∷◌}
use Prim.Native.Nat.{ℕ, zero, suc, ◌+◌, ◌-◌, ◌≤◌, ◌<◌}
use Rattle.std.proofs.Math.Decide.{dec_lt}
use native.Mathlib.Omega.{arith}
use Rattle.std.proofs.Math.ListN.{length-drop}
use Rattle.std.proofs.Math.Pow.{are_bytes}
use Rattle.std.specs.Float.Ieee.Fits.{and_r}
use borrow.Author.Tests.{eqb-true, eqb-false}
use Rattle.formats.specs.Bytes.{impossible}
use Rattle.formats.specs.Reader.{Reader, Answer, ok, short, bad, after, run, read_at, times, free, literal}
use Rattle.formats.specs.Compose.{at_done, at-short, at-pass, at-fail, free-short}
use Rattle.formats.specs.Told.{told, told-done, map-told, bind_done, bind-failed, then_told, repeated, matched, matched-short, matched-bad, matched-next}
use Rattle.formats.proofs.Lawful.{whole}
use Rattle.formats.specs.declared.Failure.{Failure}

-- a reader that starts in a string ends in it, no earlier
module _ {A : Type 0} (r : Reader A) (s : List ℕ) (at : ℕ) where
  within_by : {v : A} {n : ℕ} (x : Answer A) → run r (drop at s) ≡ x → after at x ≡ ok v n → at ≤ length s → (at ≤ n) × (n ≤ length s)
  unfolding after
  within_by {v} {n} (ok u m) e q h =
      let z : at + m ≡ n = cc in
      let g : m ≤ length s - at = rw length-drop at (whole r (drop at s) e).within in
      omega arith
  within_by short e q h = impossible (cc)
  within_by (bad k p) e q h = impossible (cc)

  pub at-within : {v : A} {n : ℕ} → read_at r s at ≡ ok v n → at ≤ length s → (at ≤ n) × (n ≤ length s)
  unfolding read_at
  at-within e h = within_by (run r (drop at s)) refl e h

module _ (n : ℕ) (s : List ℕ) (at : ℕ) where
  pub at-free-short : length s - at < n → read_at (free n) s at ≡ short
  unfolding read_at after
  at-free-short h = ap (after at) (free-short n (drop at s) (simp length-drop (omega arith)))

-- a part that starts in a string ends in it
pub done-within : {A : Type 0} (r : Reader A) (s : List ℕ) (at : ℕ) {n : ℕ} → at ≤ length s → Ok n ≡ told (read_at r s at) → (at ≤ n) × (n ≤ length s)
done-within r s at h e = at-within r s at (told-done (read_at r s at) e).1 h

-- n equal parts are n steps
module _ {A : Type 0} (r : Reader A) (s : List ℕ) (step : ℕ → Result ℕ Failure) (one : (at : ℕ) → at ≤ length s → told (read_at r s at) ≡ step at) where
  times-by : (n at : ℕ) (x : Result ℕ Failure) → at ≤ length s → told (read_at r s at) ≡ x → ((m : ℕ) → m ≤ length s → told (read_at (times n r) s m) ≡ repeated step n m)
      → told (read_at (times (suc n) r) s at) ≡ then_told x (repeated step n)
  unfolding times then_told
  times-by n at (Ok m) h e rest =
      let x = told-done (read_at r s at) (sym e) in
      bind_done r _ s at x.1 ∙ map-told (λ vs. x.0 ∷ vs) (times n r) s m ∙ rest m (done-within r s at h (sym e)).1
  times-by n at (Err f) h e rest = bind-failed r _ s at (sym e)

  pub times-repeated : (n at : ℕ) → at ≤ length s → told (read_at (times n r) s at) ≡ repeated step n at
  unfolding told times repeated
  times-repeated zero at h = ap told (at_done [] s at)
  times-repeated (suc n) at h = times-by n at (step at) h (one at h) (times-repeated n)

pub literal-told : (k : ℕ) (l : List ℕ) (h : T (are_bytes l)) (s : List ℕ) (at : ℕ) → told (read_at (literal k l h) s at) ≡ matched s at l k
unfolding literal matched told
literal-told k [] h s at = ap told (at_done tt s at)
literal-told k (b ∷ l) h s at =
    by_cases
    (dec_lt at (length s))
    (λ q. by-test q (eqb (get_or s at 0) b) refl (λ g. literal-told k l g s (at + 1)))
    (λ q. ap told (at-short _ _ s at (omega arith)) ∙ sym (matched-short s at b l k (omega arith)))
  where
    by-test : at < length s → (t : Bool) → eqb (get_or s at 0) b ≡ t → ((g : T (are_bytes l)) → told (read_at (literal k l g) s (at + 1)) ≡ matched s (at + 1) l k)
        → told (read_at (literal k (b ∷ l) h) s at) ≡ matched s at (b ∷ l) k
    by-test q true e rest =
        ap told (at-pass _ _ s at q e) ∙ rest (and_r (ltb b 256) (are_bytes l) h) ∙ sym (matched-next s at b l k q (eqb-true (get_or s at 0) b e))
    by-test q false e rest = ap told (at-fail _ _ s at q e) ∙ sym (matched-bad s at b l k q (eqb-false (get_or s at 0) b e))
