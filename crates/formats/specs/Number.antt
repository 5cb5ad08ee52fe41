-- Numbers of n bytes, the most significant first.
use Rattle.std.specs.Prelude.{◌≡◌, refl, List, [], ◌∷◌, ◌++◌, ℕ, zero, suc, ◌+◌, ◌*◌, ◌/◌, ◌%◌, ◌≤◌, ◌<◌, length, drop, get_or}
use Rattle.std.proofs.Math.Path.{ap}
use Rattle.std.proofs.Common.{◌∙◌, length-append, drop_of_length-le, drop-cons}
use Rattle.std.proofs.Math.Logic.{by_cases}
use Rattle.std.proofs.Math.Decide.{dec_lt}
use native.Mathlib.Omega.{arith}
use Rattle.std.proofs.Math.ListN.{length-drop}
use Rattle.std.proofs.Math.Seq.{get_or-drop}
use Rattle.formats.specs.Reader.{Reader, done, ok, short, after, run, read_at, bind, map, one, any, next}
use Rattle.formats.specs.Compose.{bind_ok}
use Rattle.formats.specs.Told.{run-bind-failed}
use Rattle.formats.specs.declared.Failure.TheVariants.{Short}

unfoldable pub number : ℕ → Reader ℕ
number zero = done 0
number (suc n) = bind (number n) (λ a. map (λ b. a * 256 + b) (one any))

-- the digits of v, and the number that the first n bytes of s make
unfoldable pub digits : ℕ → ℕ → List ℕ
digits zero v = []
digits (suc n) v = digits n (v / 256) ++ (v % 256 ∷ [])

unfoldable pub value : ℕ → List ℕ → ℕ
value zero s = 0
value (suc n) s = value n s * 256 + get_or s n 0

pub length_digits : (n v : ℕ) → length (digits n v) ≡ n
unfolding digits
length_digits zero v = refl
length_digits (suc n) v = omega (arith, length_digits n (v / 256), length-append (digits n (v / 256)) (v % 256 ∷ []))

digit_ok : (n a : ℕ) (s : List ℕ) → n < length s → run (map (λ b. a * 256 + b) (one any)) (drop n s) ≡ ok (a * 256 + get_or s n 0) 1
unfolding run one map bind next
digit_ok n a s h = rw (drop-cons s n 0 h)

pub number_ok : (n : ℕ) (s : List ℕ) → n ≤ length s → run (number n) s ≡ ok (value n s) n
unfolding number run value after read_at
number_ok zero s h = refl
number_ok (suc n) s h =
    bind_ok (number n) _ s (number_ok n s (omega arith)) ∙ ap (after n) (digit_ok n (value n s) s h) ∙ ap (ok (value (suc n) s)) {x = n + 1} {y = suc n} (omega arith)

pub number_short : (n : ℕ) (s : List ℕ) → length s < n → run (number n) s ≡ short
unfolding number run one map bind after read_at
number_short zero s h = absurd (omega arith)
number_short (suc n) s h =
    by_cases
    (dec_lt (length s) n)
    (λ q. run-bind-failed (number n) _ s Short (number_short n s q))
    (λ q.
    bind_ok (number n) _ s (number_ok n s (omega arith))
    ∙ ap (λ t. after n (run (map (λ b. value n s * 256 + b) (one any)) t)) (drop_of_length-le s {i = n} (omega arith)))

module _ (n : ℕ) (s : List ℕ) (at : ℕ) where
  pub at-number : at + n ≤ length s → read_at (number n) s at ≡ ok (value n (drop at s)) (at + n)
  unfolding read_at after
  at-number h = ap (after at) (number_ok n (drop at s) (simp length-drop (omega arith)))

-- the number that one byte makes, and two, and three
module _ (s : List ℕ) (at : ℕ) where
  pub value-one : value 1 (drop at s) ≡ 0 * 256 + get_or s at 0
  unfolding value
  value-one = let z : at + 0 ≡ at = omega arith in rw (get_or-drop, z)

  pub value-two : value 2 (drop at s) ≡ get_or s at 0 * 256 + get_or s (at + 1) 0
  unfolding value
  value-two = let z : at + 0 ≡ at = omega arith in rw (get_or-drop, get_or-drop, z) (omega arith)

  pub value-three : value 3 (drop at s) ≡ (get_or s at 0 * 256 + get_or s (at + 1) 0) * 256 + get_or s (at + 2) 0
  unfolding value
  value-three = let z : at + 0 ≡ at = omega arith in rw (get_or-drop, get_or-drop, get_or-drop, z) (omega arith)

-- its digits in one byte, and in two
pub one-digit : (n : ℕ) → digits 1 n ≡ n % 256 ∷ []
unfolding digits
one-digit n = refl

pub two_digits : (n : ℕ) → n < 65536 → digits 2 n ≡ n / 256 ∷ n % 256 ∷ []
unfolding digits
two_digits n h = let e : n / 256 % 256 ≡ n / 256 = omega arith in rw e
