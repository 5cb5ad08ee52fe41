-- Readers of a fixed number of free bytes: code may pass over them at once.
use Rattle.std.specs.Prelude.{◌≡◌, cond, List, [], ◌∷◌, ℕ, zero, suc, ◌+◌, ◌*◌, ◌≤◌, ◌<◌, leb, length, Result, Ok, Err}
use Rattle.std.proofs.Common.{sym, ap, ◌∙◌, arith, le-leb}
use Rattle.std.proofs.Math.Logic.{by_cases}
use Rattle.std.proofs.Math.Decide.{dec_lt}
use Rattle.std.proofs.lemmas.Bool.{lt-leb}
use Rattle.formats.specs.Reader.{Reader, done, read_at, bind, map, times}
use Rattle.formats.specs.Compose.{at_done}
use Rattle.formats.specs.Told.{told, told-done, bind_done, bind-failed, map-told}
use Rattle.formats.specs.declared.Failure.TheVariants.{Short}
use Rattle.formats.specs.declared.Failure.{Failure}

-- where n bytes from a place end, if they are there
unfoldable pub ends : List ℕ → ℕ → ℕ → Result ℕ Failure
ends s at n = cond (leb (at + n) (length s)) (Ok (at + n)) (Err Short)

-- r reads n bytes, whatever they are
abbrev pub Jumps : {A : Type 0} → Reader A → ℕ → Type 0
Jumps r n = (s : List ℕ) (at : ℕ) → at ≤ length s → told (read_at r s at) ≡ ends s at n

module _ (s : List ℕ) (at n : ℕ) where
  pub ends_there : at + n ≤ length s → ends s at n ≡ Ok (at + n)
  unfolding ends
  ends_there h = rw (le-leb (at + n) (length s) h)

  pub ends-short : length s < at + n → ends s at n ≡ Err Short
  unfolding ends
  ends-short h = rw (lt-leb (at + n) (length s) h)

pub ends-none : (s : List ℕ) (at : ℕ) → at ≤ length s → ends s at 0 ≡ Ok at
ends-none s at h = ends_there s at 0 (omega arith) ∙ ap Ok {x = at + 0} {y = at} (omega arith)

pub ends-sum : (s : List ℕ) (at n m : ℕ) → ends s (at + n) m ≡ ends s at (n + m)
unfolding ends
ends-sum s at n m = let e : at + n + m ≡ at + (n + m) = omega arith in rw e

pub jumps-done : {A : Type 0} (v : A) → Jumps (done v) 0
unfolding told
jumps-done v s at h = ap told (at_done v s at) ∙ sym (ends-none s at h)

module _ {A B : Type 0} (r : Reader A) (k : A → Reader B) (n m : ℕ) where
  pub jumps-bind : Jumps r n → ((v : A) → Jumps (k v) m) → Jumps (bind r k) (n + m)
  jumps-bind f g s at h =
      by_cases
      (dec_lt (length s) (at + n))
      (λ q. bind-failed r k s at (sym (f s at h ∙ ends-short s at n q)) ∙ sym (ends-short s at (n + m) (omega arith)))
      (λ q.
      let x = told-done (read_at r s at) (sym (f s at h ∙ ends_there s at n (omega arith))) in
      bind_done r k s at x.1 ∙ g x.0 s (at + n) (omega arith) ∙ ends-sum s at n m)

pub jumps-map : {A B : Type 0} (g : A → B) (r : Reader A) (n : ℕ) → Jumps r n → Jumps (map g r) n
jumps-map g r n f s at h = map-told g r s at ∙ f s at h

pub jumps-times : {A : Type 0} (r : Reader A) (w : ℕ) → Jumps r w → (n : ℕ) → Jumps (times n r) (n * w)
unfolding times
jumps-times r w f zero s at h = let e : 0 * w ≡ 0 = omega arith in rw e (jumps-done [] s at h)
jumps-times r w f (suc n) s at h =
    let e : suc n * w ≡ w + n * w = omega arith in
    rw e (jumps-bind r _ w (n * w) f (λ v. jumps-map (λ vs. v ∷ vs) (times n r) (n * w) (jumps-times r w f n)) s at h)
