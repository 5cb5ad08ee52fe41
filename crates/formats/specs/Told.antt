-- What code tells of an answer: how it ended, and where. The laws take a walk over a format from part to part:
-- what the whole is told as from here is what the rest is told as from the next place.
use Rattle.std.specs.Prelude.{◌≡◌, cond, eqb, leb, length, get_or, Result, Ok, Err}
use Rattle.std.proofs.Math.Path.{refl, ap}
use Rattle.std.proofs.Common.{◌∙◌}
use mathlib.Core.List.{List, [], ◌∷◌}
use Prim.Native.Nat.{ℕ, zero, suc, ◌+◌, ◌-◌, ◌≤◌, ◌<◌}
use native.Mathlib.Omega.{arith}
use borrow.Author.Tests.{le-leb, lt-leb, eq-eqb, ne_eqb}
use Rattle.formats.specs.Bytes.{impossible}
use Rattle.formats.specs.Reader.{Reader, Answer, done, ok, short, bad, mapped, and_then, run, read_at, bind, map, each, times}
use Rattle.formats.specs.Compose.{run_bind, at_done, at-bind, at_map, at-times, at-bind-ok}
use Rattle.formats.specs.declared.Failure.{Failure}
use Rattle.formats.specs.declared.Failure.TheVariants.{Short, Bad}

unfoldable pub told : {A : Type 0} → Answer A → Result ℕ Failure
told (ok v n) = Ok n
told short = Err Short
told (bad k p) = Err (Bad k p)

-- the answer of a reader that fails
abbrev pub failed : {A : Type 0} → Failure → Answer A
failed Short = short
failed (Bad k p) = bad k p

-- what code answers where it hands on more than an end: what it makes of the value and of its end, or the failure itself
unfoldable pub answered : {A B : Type 0} → (A → ℕ → B) → Answer A → Result B Failure
answered g (ok v n) = Ok (g v n)
answered g short = Err Short
answered g (bad k p) = Err (Bad k p)

-- ---- A failure is passed on whole

pub failed-told : {A : Type 0} {x : Answer A} (f : Failure) → x ≡ failed f → told x ≡ Err f
unfolding told
failed-told Short e = ap told e
failed-told (Bad k p) e = ap told e

module _ {A B : Type 0} where
  pub mapped-failed : (g : A → B) (f : Failure) → mapped g (failed f) ≡ failed f
  unfolding mapped
  mapped-failed g Short = refl
  mapped-failed g (Bad k p) = refl

  pub then-failed : (f : Failure) (k : A → ℕ → Answer B) → and_then (failed f) k ≡ failed f
  unfolding and_then
  then-failed Short k = refl
  then-failed (Bad j p) k = refl

  pub run-bind-failed : (r : Reader A) (k : A → Reader B) (s : List ℕ) (f : Failure) → run r s ≡ failed f → run (bind r k) s ≡ failed f
  run-bind-failed r k s f e = rw e at (run_bind k r s) ∙ then-failed f _

  pub at-bind-failed : (r : Reader A) (k : A → Reader B) (s : List ℕ) (at : ℕ) (f : Failure) → read_at r s at ≡ failed f → read_at (bind r k) s at ≡ failed f
  at-bind-failed r k s at f e = rw e at (at-bind k r s at) ∙ then-failed f _

-- ---- What was told

pub told-mapped : {A B : Type 0} (g : A → B) (x : Answer A) → told (mapped g x) ≡ told x
unfolding told mapped
told-mapped g (ok v n) = refl
told-mapped g short = refl
told-mapped g (bad k p) = refl

-- what was told, taken back to the answer
module _ {A : Type 0} where
  pub told-done : (x : Answer A) {n : ℕ} → Ok n ≡ told x → (v : A) × (x ≡ ok v n)
  unfolding told
  told-done (ok v m) e = (v, ap (ok v) (cc))
  told-done short e = impossible (cc)
  told-done (bad k p) e = impossible (cc)

  pub told-failed : (x : Answer A) {f : Failure} → Err f ≡ told x → x ≡ failed f
  unfolding told
  told-failed (ok v m) e = impossible (cc)
  told-failed short {f} e = ap failed {x = Short} {y = f} (cc)
  told-failed (bad k p) {f} e = ap failed {x = Bad k p} {y = f} (cc)

pub map-told : {A B : Type 0} (g : A → B) (r : Reader A) (s : List ℕ) (at : ℕ) → told (read_at (map g r) s at) ≡ told (read_at r s at)
map-told g r s at = ap told (at_map g r s at) ∙ told-mapped g (read_at r s at)

-- what was answered, taken back to it
module _ {A B : Type 0} (g : A → ℕ → B) where
  pub failed-answered : {x : Answer A} (f : Failure) → x ≡ failed f → answered g x ≡ Err f
  unfolding answered
  failed-answered Short e = ap (answered g) e
  failed-answered (Bad k p) e = ap (answered g) e

  pub answered-done : (x : Answer A) {b : B} → answered g x ≡ Ok b → (v : A) × (n : ℕ) × (x ≡ ok v n) × (g v n ≡ b)
  unfolding answered
  answered-done (ok v n) e = (v, n, refl, cc)
  answered-done short e = impossible (cc)
  answered-done (bad k p) e = impossible (cc)

  pub answered-failed : (x : Answer A) {f : Failure} → answered g x ≡ Err f → x ≡ failed f
  unfolding answered
  answered-failed (ok v n) e = impossible (cc)
  answered-failed short {f} e = ap failed {x = Short} {y = f} (cc)
  answered-failed (bad k p) {f} e = ap failed {x = Bad k p} {y = f} (cc)

-- a first part, by its answer
module _ {A B : Type 0} (r : Reader A) (k : A → Reader B) (s : List ℕ) (at : ℕ) where
  pub bind_done : {v : A} {n : ℕ} → read_at r s at ≡ ok v n → told (read_at (bind r k) s at) ≡ told (read_at (k v) s n)
  bind_done e = ap told (at-bind-ok r k s at e)

  pub bind-failed : {f : Failure} → Err f ≡ told (read_at r s at) → told (read_at (bind r k) s at) ≡ Err f
  bind-failed {f} e = failed-told f (at-bind-failed r k s at f (told-failed (read_at r s at) e))

-- the next of a list of parts
module _ {I A : Type 0} (i : I) (l : List I) (f : I → Reader A) (s : List ℕ) (at : ℕ) where
  pub each-done : {n : ℕ} → Ok n ≡ told (read_at (f i) s at) → told (read_at (each (i ∷ l) f) s at) ≡ told (read_at (each l f) s n)
  unfolding each
  each-done {n} e = let x = told-done (read_at (f i) s at) e in bind_done (f i) _ s at x.1 ∙ map-told (λ vs. x.0 ∷ vs) (each l f) s n

  pub each-failed : {g : Failure} → Err g ≡ told (read_at (f i) s at) → told (read_at (each (i ∷ l) f) s at) ≡ Err g
  unfolding each
  each-failed e = bind-failed (f i) _ s at e

-- a step from place to place, n times
unfoldable pub then_told : {A B : Type 0} → Result A Failure → (A → Result B Failure) → Result B Failure
then_told (Ok v) k = k v
then_told (Err f) k = Err f

unfoldable pub repeated : (ℕ → Result ℕ Failure) → ℕ → ℕ → Result ℕ Failure
repeated step zero at = Ok at
repeated step (suc n) at = then_told (step at) (repeated step n)

-- the ith of n steps, by how it ended
module _ (step : ℕ → Result ℕ Failure) (at i n : ℕ) where
  count : i < n → n - i ≡ suc (n - (i + 1))
  count h = omega arith

  pub repeated-done : {m : ℕ} → i < n → step at ≡ Ok m → repeated step (n - i) at ≡ repeated step (n - (i + 1)) m
  unfolding repeated then_told
  repeated-done {m} h e = rw (count h, e)

  pub repeated-failed : {f : Failure} → i < n → step at ≡ Err f → repeated step (n - i) at ≡ Err f
  unfolding repeated then_told
  repeated-failed h e = rw (count h, e)

  pub repeated-none : n ≤ i → repeated step (n - i) at ≡ Ok at
  unfolding repeated
  repeated-none h = let z : n - i ≡ 0 = omega arith in rw z

-- one time is the part itself
pub once-told : {A : Type 0} (r : Reader A) (s : List ℕ) (at : ℕ) → told (read_at (times 1 r) s at) ≡ told (read_at r s at)
unfolding times told and_then
once-told {A} r s at = ap told (at-times s at 0 r) ∙ go (read_at r s at)
  where
    go : (x : Answer A) → told (and_then x (λ v n. mapped (λ vs. v ∷ vs) (read_at (done []) s n))) ≡ told x
    go (ok v n) = told-mapped (λ vs. v ∷ vs) (read_at (done []) s n) ∙ ap told (at_done [] s n)
    go short = refl
    go (bad k p) = refl

-- certain bytes from a place on, one by one
unfoldable pub matched : List ℕ → ℕ → List ℕ → ℕ → Result ℕ Failure
matched s at [] k = Ok at
matched s at (b ∷ l) k = cond (leb (length s) at) (Err Short) (cond (eqb (get_or s at 0) b) (matched s (at + 1) l k) (Err (Bad k at)))

module _ (s : List ℕ) (at b : ℕ) (l : List ℕ) (k : ℕ) where
  pub matched-short : length s ≤ at → matched s at (b ∷ l) k ≡ Err Short
  unfolding matched
  matched-short h = rw (le-leb (length s) at h)

  pub matched-bad : at < length s → (get_or s at 0 ≡ b → ⊥) → matched s at (b ∷ l) k ≡ Err (Bad k at)
  unfolding matched
  matched-bad h e = rw (lt-leb (length s) at h, ne_eqb (get_or s at 0) b e)

  pub matched-next : at < length s → get_or s at 0 ≡ b → matched s at (b ∷ l) k ≡ matched s (at + 1) l k
  unfolding matched
  matched-next h e = rw (lt-leb (length s) at h, eq-eqb (get_or s at 0) b e)
