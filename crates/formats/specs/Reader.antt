-- Readers of byte strings: what a format is written in.
--
-- A reader has read all that it wants, or wants one more byte, which has to pass a test and tells how to go on.
-- So a format is a tree. `run` walks it along a string and has three answers: a value, with the number of bytes it took;
-- that the string ended too soon; or a refusal, with its number and the place of the byte that was refused.
-- Every test names a byte that passes it. So no reader has a dead end, and each obeys the laws of `Law`.
use Rattle.std.specs.Prelude.{Bool, true, false, ◌&&◌, List, [], ◌∷◌, ℕ, zero, suc, ◌+◌, T, eqb, ltb, drop}
use Rattle.std.proofs.Math.Dec.{eqb_refl}
use Rattle.std.proofs.Math.Pow.{are_bytes}
use Rattle.std.specs.Float.Ieee.Fits.{and_i, and_l, and_r}

-- What a byte has to be, the number of the refusal of one that is not, and a byte that is.
pub record Test : Type 0 where
  pub holds : ℕ → Bool
  pub fault : ℕ
  pub sample : ℕ
  pub fair : T (ltb sample 256 && holds sample)

pub data Reader (A : Type 0) : Type 0 where
  done : A → Reader A
  byte : Test → (ℕ → Reader A) → Reader A

-- ---- What a reader answers

pub data Answer (A : Type 0) : Type 0 where
  ok : A → ℕ → Answer A
  short : Answer A
  bad : ℕ → ℕ → Answer A

-- an answer, counted from one byte earlier, and from n bytes earlier
unfoldable pub next : {A : Type 0} → Answer A → Answer A
next (ok v n) = ok v (suc n)
next short = short
next (bad k p) = bad k (suc p)

unfoldable pub after : {A : Type 0} → ℕ → Answer A → Answer A
after n (ok v m) = ok v (n + m)
after n short = short
after n (bad k p) = bad k (n + p)

-- a value's image; and what a value and the place after it lead to
unfoldable pub mapped : {A B : Type 0} → (A → B) → Answer A → Answer B
mapped g (ok v n) = ok (g v) n
mapped g short = short
mapped g (bad k p) = bad k p

unfoldable pub and_then : {A B : Type 0} → Answer A → (A → ℕ → Answer B) → Answer B
and_then (ok v n) k = k v n
and_then short k = short
and_then (bad j p) k = bad j p

unfoldable pub run : {A : Type 0} → Reader A → List ℕ → Answer A
run (done v) s = ok v 0
run (byte c f) [] = short
run (byte c f) (b ∷ s) = elim (c.holds b) [ true ↦ next (run (f b) s) | false ↦ bad c.fault 0 ]

-- from a place of s, with lengths and places counted from the start of s
unfoldable pub read_at : {A : Type 0} → Reader A → List ℕ → ℕ → Answer A
read_at r s at = after at (run r (drop at s))

-- ---- Formats

-- r, and then what its value asks for
unfoldable pub bind : {A B : Type 0} → Reader A → (A → Reader B) → Reader B
bind (done v) k = k v
bind (byte c f) k = byte c (λ b. bind (f b) k)

-- the same as the lines of a do block: a line that names its value, and one that does not
infixl 10 ◌>>=◌
abbrev pub ◌>>=◌ : {A B : Type 0} → Reader A → (A → Reader B) → Reader B
r >>= k = bind r k

infixl 10 ◌>>◌
abbrev pub ◌>>◌ : {A B : Type 0} → Reader A → Reader B → Reader B
r >> k = bind r (λ v. k)

unfoldable pub map : {A B : Type 0} → (A → B) → Reader A → Reader B
map g r = bind r (λ v. done (g v))

-- f i for each i of a list
unfoldable pub each : {I A : Type 0} → List I → (I → Reader A) → Reader (List A)
each [] f = done []
each (i ∷ l) f = bind (f i) (λ v. map (λ vs. v ∷ vs) (each l f))

-- r, n times
unfoldable pub times : {A : Type 0} → ℕ → Reader A → Reader (List A)
times zero r = done []
times (suc n) r = bind r (λ v. map (λ vs. v ∷ vs) (times n r))

-- one byte that passes c; any byte; any n bytes
unfoldable pub one : Test → Reader ℕ
one c = byte c done

abbrev pub any : Test
any = record { holds = λ b. true; fault = 0; sample = 0; fair = tt }

unfoldable pub free : ℕ → Reader (List ℕ)
free n = times n (one any)

-- the byte b, or refusal k; the bytes of l, or refusal k
abbrev pub is : (k b : ℕ) → T (ltb b 256) → Test
is k b h = record { holds = λ x. eqb x b; fault = k; sample = b; fair = and_i (ltb b 256) (eqb b b) h (eqb_refl b) }

unfoldable pub literal : (k : ℕ) (l : List ℕ) → T (are_bytes l) → Reader (Unit {0})
literal k [] h = done tt
literal k (b ∷ l) h = byte (is k b (and_l (ltb b 256) (are_bytes l) h)) (λ x. literal k l (and_r (ltb b 256) (are_bytes l) h))
