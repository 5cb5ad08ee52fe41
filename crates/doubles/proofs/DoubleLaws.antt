-- One number, one double: two doubles that are the same number have the same bits, but for plus zero and minus zero.
use Rattle.std.specs.Prelude.{◌≡◌, refl, Bool, true, false, ℕ, zero, suc, ◌+◌, ◌*◌, ◌%◌, ◌^◌, ◌≤◌, ◌<◌, ℤ, pos, negsuc, nat_abs, ◌*ℤ◌}
use Rattle.std.proofs.Common.{sym, ap, ◌∙◌, subst, mul_assoc, mul-le-mul_left, mul-le-mul_right, mul-lt-mul_of_pos_right, lt_of_lt_of_le, lt_irrefl, le_trans, le_of_eq, le-add_right, mul-pos, arith, leb-true, leb-false, pow_pos, pow_mono}
use Rattle.std.proofs.Math.Logic.{by_cases}
use Rattle.std.proofs.Math.Decide.{dec_lt}
use Rattle.std.proofs.Math.Nat.{eq_of_mul-eq-mul_right, pow-succ'}
use Rattle.formats.specs.Bytes.{impossible}
use Rattle.doubles.specs.Double.{minus, exponent, digits, size_by, size, signed, units, Is}
use Rattle.doubles.proofs.ValueLaws.{times}

-- ---- A greater exponent, a greater size

pub under : (x d : ℕ) → d < 2 ^ 52 → size_by x d < 2 ^ 52 * 2 ^ x
unfolding size_by
under zero d h = omega arith
under (suc x) d h =
    let k : 2 ^ 52 + d < 2 ^ 52 * 2 = omega arith in
    lt_of_lt_of_le (mul-lt-mul_of_pos_right k (pow_pos x)) (le_of_eq (mul_assoc (2 ^ 52) 2 (2 ^ x) ∙ ap (λ (n : ℕ). 2 ^ 52 * n) (sym (pow-succ' 2 x))))

over : (x d : ℕ) → 2 ^ 52 * 2 ^ x ≤ size_by (suc x) d
unfolding size_by
over x d = mul-le-mul_right (2 ^ x) (le-add_right (2 ^ 52) d)

-- so a smaller exponent has another size
apart : (x y d g : ℕ) → x < y → d < 2 ^ 52 → size_by x d ≡ size_by y g → ⊥
apart x zero d g l h e = absurd (omega arith)
apart x (suc y) d g l h e = lt_irrefl (size_by x d) (lt_of_lt_of_le (under x d h) (le_trans (mul-le-mul_left (2 ^ 52) (pow_mono {i = x} {j = y} (omega arith))) (le_trans (over y g) (le_of_eq (sym e)))))

same_digits : (x d g : ℕ) → size_by x d ≡ size_by x g → d ≡ g
unfolding size_by
same_digits zero d g e = e
same_digits (suc x) d g e = let k = eq_of_mul-eq-mul_right (2 ^ x) (pow_pos x) (2 ^ 52 + d) (2 ^ 52 + g) e in omega arith

same-exponent : (x y d g : ℕ) → d < 2 ^ 52 → g < 2 ^ 52 → size_by x d ≡ size_by y g → x ≡ y
same-exponent x y d g D G e = by_cases (dec_lt x y) (λ l. absurd (apart x y d g l D e)) (λ k. by_cases (dec_lt y x) (λ l. absurd (apart y x g d l G (sym e))) (λ l. omega arith))

same-fields : (x y d g : ℕ) → d < 2 ^ 52 → g < 2 ^ 52 → size_by x d ≡ size_by y g → (x ≡ y) × (d ≡ g)
same-fields x y d g D G e =
    let k = same-exponent x y d g D G e in
    (k, same_digits y d g (ap (λ (n : ℕ). size_by n d) (sym k) ∙ e))

-- ---- Size and sign are all the bits

pub digits_in : (b : ℕ) → digits b < 2 ^ 52
digits_in b = omega arith

below-sign : (b : ℕ) → b % 2 ^ 63 ≡ exponent b * 2 ^ 52 + digits b
below-sign b = omega arith

with-sign : (a b : ℕ) → 2 ^ 63 ≤ a → 2 ^ 63 ≤ b → a < 2 ^ 64 → b < 2 ^ 64 → a % 2 ^ 63 ≡ b % 2 ^ 63 → a ≡ b
with-sign a b l k A B e = omega arith

without_sign : (a b : ℕ) → a < 2 ^ 63 → b < 2 ^ 63 → a % 2 ^ 63 ≡ b % 2 ^ 63 → a ≡ b
without_sign a b A B e = omega arith

whole : (a b : ℕ) → a < 2 ^ 64 → b < 2 ^ 64 → minus a ≡ minus b → a % 2 ^ 63 ≡ b % 2 ^ 63 → a ≡ b
whole a b A B s e = go (minus a) refl
  where
    go : (t : Bool) → minus a ≡ t → a ≡ b
    go true m = with-sign a b (leb-true (2 ^ 63) a m) (leb-true (2 ^ 63) b (sym s ∙ m)) A B e
    go false m = without_sign a b (leb-false (2 ^ 63) a m) (leb-false (2 ^ 63) b (sym s ∙ m)) e

same-sized : (a b : ℕ) → size a ≡ size b → a % 2 ^ 63 ≡ b % 2 ^ 63
same-sized a b e =
    let k = same-fields (exponent a) (exponent b) (digits a) (digits b) (digits_in a) (digits_in b) e in
    below-sign a ∙ ap (λ (x : ℕ). x * 2 ^ 52 + digits a) k.0 ∙ ap (λ (x : ℕ). exponent b * 2 ^ 52 + x) k.1 ∙ sym (below-sign b)

-- ---- A number is its size and its sign

size_of : (s : Bool) (n : ℕ) → nat_abs (signed s n) ≡ n
size_of true zero = refl
size_of true (suc n) = refl
size_of false n = refl

same_sign : (s t : Bool) (n m : ℕ) → 0 < n → signed s n ≡ signed t m → s ≡ t
same_sign true true n m h e = refl
same_sign false false n m h e = refl
same_sign true false zero m h e = absurd (omega arith)
same_sign true false (suc n) m h e = impossible (cc)
same_sign false true n zero h e = let k : n ≡ 0 = ap nat_abs e in absurd (omega arith)
same_sign false true n (suc m) h e = impossible (cc)

abs-times : (z : ℤ) (k : ℕ) → nat_abs (z *ℤ pos k) ≡ nat_abs z * k
abs-times (pos n) k = refl
abs-times (negsuc n) k = size_of true (suc n * k)

-- so units and sign are all the bits too: where there are none, the sign is not told by them
pub same_bits : (a b : ℕ) → a < 2 ^ 64 → b < 2 ^ 64 → minus a ≡ minus b → units a ≡ units b → a ≡ b
same_bits a b A B s e = whole a b A B s (same-sized a b (sym (size_of (minus a) (size a)) ∙ ap nat_abs e ∙ size_of (minus b) (size b)))

-- ---- Two doubles that are the same number

module _ {a b : ℕ} {n : ℤ} {d : ℕ} (some : 0 < d) (p : Is a n d) (q : Is b n d) where
  as-units : signed (minus a) (size a * d) ≡ signed (minus b) (size b * d)
  as-units = sym (times (minus a) (size a) d) ∙ p.equal ∙ sym q.equal ∙ times (minus b) (size b) d

  same_size : size a ≡ size b
  same_size = eq_of_mul-eq-mul_right d some (size a) (size b) (sym (size_of (minus a) (size a * d)) ∙ ap nat_abs as-units ∙ size_of (minus b) (size b * d))

  -- all the bits but the sign's
  pub same-but-sign : a % 2 ^ 63 ≡ b % 2 ^ 63
  same-but-sign = same-sized a b same_size

  sized : 0 < nat_abs n → 0 < size a * d
  sized h =
      let e : size a * d ≡ nat_abs n * 2 ^ 1074 = sym (size_of (minus a) (size a * d)) ∙ ap nat_abs (sym (times (minus a) (size a) d) ∙ p.equal) ∙ abs-times n (2 ^ 1074) in
      subst (λ (k : ℕ). 0 < k) (sym e) (mul-pos h (pow_pos 1074))

  -- and where the number is not zero, the sign's too
  pub one-double : 0 < nat_abs n → a ≡ b
  one-double h = whole a b p.word q.word (same_sign (minus a) (minus b) (size a * d) (size b * d) (sized h) as-units) same-but-sign
