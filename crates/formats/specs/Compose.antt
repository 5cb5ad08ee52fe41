-- What a composed reader answers, by its parts: the laws that code is proved by, a byte or a field at a time.
use Rattle.std.specs.Prelude.{◌≡◌, Bool, take, drop, get_or}
use Rattle.std.proofs.Math.Path.{refl, sym, ap}
use Rattle.std.proofs.Common.{◌∙◌, zero-add, suc-add, add_assoc, not-suc-le-zero, add-one, drop_of_length-le, drop-cons, drop-drop}
use Rattle.std.proofs.Math.Bool.{true, false}
use mathlib.Core.List.{List, [], ◌∷◌}
use Prim.Native.Nat.{ℕ, zero, suc, ◌+◌, ◌≤◌, ◌<◌}
use native.Mathlib.Omega.{arith}
use Rattle.std.proofs.Math.ListN.{length, length-drop}
use Rattle.formats.specs.Bytes.{impossible}
use Rattle.formats.specs.Reader.{Test, Reader, done, byte, Answer, ok, short, bad, next, after, mapped, and_then, run, read_at, bind, map, each, times, one, any, free}
use Rattle.formats.specs.Law.{run-pass, run-fail}

-- ---- Answers, counted from elsewhere

module _ {A : Type 0} where
  pub after-zero : (x : Answer A) → after 0 x ≡ x
  unfolding after
  after-zero (ok v n) = ap (ok v) (zero-add n)
  after-zero short = refl
  after-zero (bad k p) = ap (bad k) (zero-add p)

  pub after-suc : (n : ℕ) (x : Answer A) → after (suc n) x ≡ next (after n x)
  unfolding after next
  after-suc n (ok v m) = ap (ok v) (suc-add n m)
  after-suc n short = refl
  after-suc n (bad k p) = ap (bad k) (suc-add n p)

  pub after_next : (n : ℕ) (x : Answer A) → after n (next x) ≡ after (n + 1) x
  unfolding after next
  after_next n (ok v m) = ap (ok v) {x = n + suc m} {y = n + 1 + m} (omega arith)
  after_next n short = refl
  after_next n (bad k p) = ap (bad k) {x = n + suc p} {y = n + 1 + p} (omega arith)

  pub after-after : (n m : ℕ) (x : Answer A) → after n (after m x) ≡ after (n + m) x
  unfolding after
  after-after n m (ok v i) = ap (ok v) (sym (add_assoc n m i))
  after-after n m short = refl
  after-after n m (bad k p) = ap (bad k) (sym (add_assoc n m p))

  pub at-start : (r : Reader A) (s : List ℕ) → read_at r s 0 ≡ run r s
  unfolding read_at
  at-start r s = after-zero (run r s)

  pub at_done : (v : A) (s : List ℕ) (at : ℕ) → read_at (done v) s at ≡ ok v at
  unfolding read_at run after
  at_done v s at = ap (ok v) {x = at + 0} {y = at} (omega arith)

-- ---- One byte

module _ {A : Type 0} (c : Test) (f : ℕ → Reader A) (s : List ℕ) (at : ℕ) where
  pub at-short : length s ≤ at → read_at (byte c f) s at ≡ short
  unfolding read_at run after
  at-short h = rw (drop_of_length-le s {i = at} h)

  pub at-pass : at < length s → c.holds (get_or s at 0) ≡ true → read_at (byte c f) s at ≡ read_at (f (get_or s at 0)) s (at + 1)
  unfolding read_at
  at-pass h q =
      ap (after at) (ap (run (byte c f)) (drop-cons s at 0 h) ∙ run-pass c f (get_or s at 0) (drop (suc at) s) q)
      ∙ rw (add-one at) (rw (add-one at) at (after_next at (run (f (get_or s at 0)) (drop (suc at) s))))

  pub at-fail : at < length s → c.holds (get_or s at 0) ≡ false → read_at (byte c f) s at ≡ bad c.fault at
  unfolding read_at after
  at-fail h q =
      ap (after at) (ap (run (byte c f)) (drop-cons s at 0 h) ∙ run-fail c f (get_or s at 0) (drop (suc at) s) q)
      ∙ ap (bad c.fault) {x = at + 0} {y = at} (omega arith)

-- ---- One part after another

module _ {A B : Type 0} (k : A → Reader B) where
  next-then : (b : ℕ) (s : List ℕ) (x : Answer A)
      → next (and_then x (λ v n. read_at (k v) s n)) ≡ and_then (next x) (λ v n. read_at (k v) (b ∷ s) n)
  unfolding and_then next read_at
  next-then b s (ok v n) = sym (after-suc n (run (k v) (drop n s)))
  next-then b s short = refl
  next-then b s (bad j p) = refl

  -- the second goes on where the first ended
  pub run_bind : (r : Reader A) (s : List ℕ) → run (bind r k) s ≡ and_then (run r s) (λ v n. read_at (k v) s n)
  unfolding run bind and_then
  run_bind (done v) s = sym (at-start (k v) s)
  run_bind (byte c f) [] = refl
  run_bind (byte c f) (b ∷ s) = go (c.holds b) (run_bind (f b) s)
    where
      go : (t : Bool) → run (bind (f b) k) s ≡ and_then (run (f b) s) (λ v n. read_at (k v) s n)
          → elim t as (λ x. Answer B) [ true ↦ next (run (bind (f b) k) s) | false ↦ bad c.fault 0 ]
          ≡ and_then (elim t as (λ x. Answer A) [ true ↦ next (run (f b) s) | false ↦ bad c.fault 0 ]) (λ v n. read_at (k v) (b ∷ s) n)
      go true e = ap next e ∙ next-then b s (run (f b) s)
      go false e = refl

  after_then : (s : List ℕ) (at : ℕ) (x : Answer A)
      → after at (and_then x (λ v n. read_at (k v) (drop at s) n)) ≡ and_then (after at x) (λ v n. read_at (k v) s n)
  unfolding and_then after read_at
  after_then s at (ok v n) = after-after at n (run (k v) (drop n (drop at s))) ∙ ap (λ t. after (at + n) (run (k v) t)) (drop-drop n at s)
  after_then s at short = refl
  after_then s at (bad j p) = refl

  pub at-bind : (r : Reader A) (s : List ℕ) (at : ℕ) → read_at (bind r k) s at ≡ and_then (read_at r s at) (λ v n. read_at (k v) s n)
  unfolding read_at
  at-bind r s at = ap (after at) (run_bind r (drop at s)) ∙ after_then s at (run r (drop at s))

module _ {A B : Type 0} (g : A → B) where
  pub at_map : (r : Reader A) (s : List ℕ) (at : ℕ) → read_at (map g r) s at ≡ mapped g (read_at r s at)
  unfolding map and_then mapped
  at_map r s at = at-bind (λ v. done (g v)) r s at ∙ go (read_at r s at)
    where
      go : (x : Answer A) → and_then x (λ v n. read_at (done (g v)) s n) ≡ mapped g x
      go (ok v n) = at_done (g v) s n
      go short = refl
      go (bad k p) = refl

-- one more of a list
module _ {A : Type 0} (s : List ℕ) (at : ℕ) where
  rest-map : (x : Answer A) (r : Reader (List A))
      → and_then x (λ v n. read_at (map (λ vs. v ∷ vs) r) s n) ≡ and_then x (λ v n. mapped (λ vs. v ∷ vs) (read_at r s n))
  unfolding and_then
  rest-map (ok v n) r = at_map (λ vs. v ∷ vs) r s n
  rest-map short r = refl
  rest-map (bad k p) r = refl

  pub at_each : {I : Type 0} (i : I) (l : List I) (f : I → Reader A)
      → read_at (each (i ∷ l) f) s at ≡ and_then (read_at (f i) s at) (λ v n. mapped (λ vs. v ∷ vs) (read_at (each l f) s n))
  unfolding each
  at_each i l f = at-bind _ (f i) s at ∙ rest-map (read_at (f i) s at) (each l f)

  pub at-times : (n : ℕ) (r : Reader A)
      → read_at (times (suc n) r) s at ≡ and_then (read_at r s at) (λ v m. mapped (λ vs. v ∷ vs) (read_at (times n r) s m))
  unfolding times
  at-times n r = at-bind _ r s at ∙ rest-map (read_at r s at) (times n r)

-- ---- By the first part's answer

module _ {A B : Type 0} (r : Reader A) (k : A → Reader B) (s : List ℕ) (at : ℕ) where
  pub at-bind-ok : {v : A} {n : ℕ} → read_at r s at ≡ ok v n → read_at (bind r k) s at ≡ read_at (k v) s n
  unfolding and_then
  at-bind-ok e = rw e at (at-bind k r s at)

-- what is read is one value
pub ok-value : {A : Type 0} {u v : A} {m n : ℕ} → ok u m ≡ ok v n → u ≡ v
ok-value e = cc

-- what the first part was read as, where both were
pub then_ok : {A B : Type 0} (x : Answer A) (k : A → ℕ → Answer B) {v : B} {n : ℕ} → and_then x k ≡ ok v n → (u : A) × (m : ℕ) × (x ≡ ok u m) × (k u m ≡ ok v n)
unfolding and_then
then_ok (ok u m) k e = (u, m, refl, e)
then_ok short k e = impossible (cc)
then_ok (bad j p) k e = impossible (cc)

module _ {A B : Type 0} (r : Reader A) (k : A → Reader B) (s : List ℕ) where
  pub bind_ok : {v : A} {n : ℕ} → run r s ≡ ok v n → run (bind r k) s ≡ read_at (k v) s n
  unfolding and_then
  bind_ok e = rw e at (run_bind k r s)

pub run-map : {A B : Type 0} (g : A → B) (r : Reader A) (s : List ℕ) → run (map g r) s ≡ mapped g (run r s)
run-map g r s = sym (at-start (map g r) s) ∙ at_map g r s 0 ∙ ap (mapped g) (at-start r s)

-- ---- Free bytes

free-suc : (n b : ℕ) (s : List ℕ) → run (free (suc n)) (b ∷ s) ≡ next (mapped (λ vs. b ∷ vs) (run (free n) s))
unfolding run free times one bind
free-suc n b s = ap next (run-map (λ vs. b ∷ vs) (times n (one any)) s)

pub free-ok : (n : ℕ) (s : List ℕ) → n ≤ length s → run (free n) s ≡ ok (take n s) n
unfolding run free times next mapped
free-ok zero s h = refl
free-ok (suc n) [] h = absurd (not-suc-le-zero h)
free-ok (suc n) (b ∷ s) h = free-suc n b s ∙ ap (λ x. next (mapped (λ vs. b ∷ vs) x)) (free-ok n s (omega arith))

pub free-short : (n : ℕ) (s : List ℕ) → length s < n → run (free n) s ≡ short
unfolding run free times one bind next mapped
free-short zero s h = absurd (not-suc-le-zero h)
free-short (suc n) [] h = refl
free-short (suc n) (b ∷ s) h = free-suc n b s ∙ ap (λ x. next (mapped (λ vs. b ∷ vs) x)) (free-short n s (omega arith))

module _ (n : ℕ) (s : List ℕ) (at : ℕ) where
  pub at-free : at + n ≤ length s → read_at (free n) s at ≡ ok (take n (drop at s)) (at + n)
  unfolding read_at after
  at-free h = ap (after at) (free-ok n (drop at s) (simp length-drop (omega arith)))
