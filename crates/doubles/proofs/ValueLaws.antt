-- The value of a double by its bits is its value in the logic's account of IEEE 754 (`lib.Ieee`).
use Rattle.std.specs.Prelude.{◌≡◌, refl, Bool, true, false, cond, ℕ, zero, suc, ◌+◌, ◌*◌, ◌^◌, ◌<◌, T, eqb, pos, ◌*ℤ◌, Float}
use Rattle.std.proofs.Common.{sym, ap, ◌∙◌, subst, zero-mul, mul-one, mul_right_comm, arith, eqb-true}
use Rattle.std.proofs.Math.Nat.{eq_of_mul-eq-mul_right}
use Rattle.std.proofs.lemmas.Bool.{eqb-false}
use Rattle.std.specs.Float.{nan, inf, fin, binary64}
use Rattle.std.specs.Float.Ieee.{up, down, odd, fits, of_fields, of_bits, to_bits}
use Rattle.std.specs.Float.Ieee.Fits.{down_pos}
use Rattle.std.specs.Float.Ieee.Exact.{HasValue, odd_sign}
use Rattle.std.specs.Float.Ieee.Bits.{of_bits-to_bits, to_bits-lt}
use Rattle.doubles.specs.Double.{minus, exponent, digits, size_by, size, signed, Is}

-- ---- A number by its sign and its size

pub times : (s : Bool) (n d : ℕ) → signed s n *ℤ pos d ≡ signed s (n * d)
times true zero d = rw zero-mul
times true (suc n) d = refl
times false n d = refl

-- x is a number, negative where s is true, of the size a / c
pub record Worth (x : Float) (s : Bool) (a c : ℕ) : Type 0 where
  pub worth : HasValue x s a c

-- ---- Fractions that one double is

pub same-worth : (x : Float) {s t : Bool} {a c b d : ℕ} → Worth x s a c → Worth x t b d → (s ≡ t) × (a * d ≡ b * c)
same-worth nan v w = absurd v.worth
same-worth (inf u) v w = absurd v.worth
same-worth (fin u m e) {s} {t} {a} {c} {b} {d} v w = (
  sym v.worth.0 ∙ w.worth.0,
  eq_of_mul-eq-mul_right (down e) (down_pos e) (a * d) (b * c)
      (mul_right_comm a d (down e)
      ∙ ap (λ (x : ℕ). x * d) (sym v.worth.1)
      ∙ mul_right_comm (m * up e) c d
      ∙ ap (λ (x : ℕ). x * c) w.worth.1
      ∙ mul_right_comm b (down e) c),
)

pub as-fraction : (x : Float) {s : Bool} {a c : ℕ} (b d : ℕ) → 0 < c → a * d ≡ b * c → Worth x s a c → Worth x s b d
as-fraction nan b d p h v = absurd v.worth
as-fraction (inf t) b d p h v = absurd v.worth
as-fraction (fin t m e) {s} {a} {c} b d p h v = record {
  worth = (
    v.worth.0,
    eq_of_mul-eq-mul_right c p (m * up e * d) (b * down e)
        (mul_right_comm (m * up e) d c
        ∙ ap (λ (x : ℕ). x * d) v.worth.1
        ∙ mul_right_comm a (down e) d
        ∙ ap (λ (x : ℕ). x * down e) h
        ∙ mul_right_comm b c (down e)),
  );
}

-- ---- The value that bits are read as

no_number : (t u : Bool) {s : Bool} {a c : ℕ} → Worth (cond t (inf u) nan) s a c → ⊥
no_number true u v = v.worth
no_number false u v = v.worth

below : (n : ℕ) → n < 2048 → (n ≡ 2047 → ⊥) → n < 2047
below n l k = omega (arith, k)

fields-number : (u : Bool) (x d : ℕ) {s : Bool} {a c : ℕ} → x < 2048 → Worth (of_fields binary64 u x d) s a c → x < 2047
unfolding of_fields
fields-number u zero d h v = omega arith
fields-number u (suc x) d {s} {a} {c} h v = go (eqb (suc x) 2047) refl v
  where
    go : (t : Bool) → eqb (suc x) 2047 ≡ t → Worth (cond t (cond (eqb d 0) (inf u) nan) (odd 53 u (2 ^ 52 + d) x 1074)) s a c → suc x < 2047
    go true e w = absurd (no_number (eqb d 0) u w)
    go false e w = below (suc x) h (eqb-false (suc x) 2047 e)

fields-worth : (u : Bool) (x d : ℕ) → x < 2047 → Worth (of_fields binary64 u x d) u (size_by x d) (2 ^ 1074)
unfolding of_fields size_by
fields-worth u zero d h = record { worth = subst (λ (n : ℕ). HasValue (odd 53 u d 0 1074) u n (2 ^ 1074)) (mul-one d) (odd_sign 53 u d 0 1074) }
fields-worth u (suc x) d h = go (eqb (suc x) 2047) refl
  where
    go : (t : Bool) → eqb (suc x) 2047 ≡ t → Worth (cond t (cond (eqb d 0) (inf u) nan) (odd 53 u (2 ^ 52 + d) x 1074)) u ((2 ^ 52 + d) * 2 ^ x) (2 ^ 1074)
    go true e = let k = eqb-true (suc x) 2047 e in absurd (omega arith)
    go false e = record { worth = odd_sign 53 u (2 ^ 52 + d) x 1074 }

by-fields : (bits : ℕ) → of_bits binary64 bits ≡ of_fields binary64 (minus bits) (exponent bits) (digits bits)
unfolding of_bits
by-fields bits = refl

pub bits-worth : (bits : ℕ) → exponent bits < 2047 → Worth (of_bits binary64 bits) (minus bits) (size bits) (2 ^ 1074)
bits-worth bits h = subst (λ (x : Float). Worth x (minus bits) (size bits) (2 ^ 1074)) (sym (by-fields bits)) (fields-worth (minus bits) (exponent bits) (digits bits) h)

exponent-in : (bits : ℕ) → exponent bits < 2048
exponent-in bits = omega arith

-- ---- What a double is, by its bits

module _ {x : Float} {s : Bool} {a c : ℕ} (f : T (fits binary64 x)) (v : Worth x s a c) where
  read_back : Worth (of_fields binary64 (minus (to_bits binary64 x)) (exponent (to_bits binary64 x)) (digits (to_bits binary64 x))) s a c
  read_back = subst (λ (y : Float). Worth y s a c) (sym (of_bits-to_bits binary64 x f) ∙ by-fields (to_bits binary64 x)) v

  pub is_number : exponent (to_bits binary64 x) < 2047
  is_number =
      let b = to_bits binary64 x in
      fields-number (minus b) (exponent b) (digits b) (exponent-in b) read_back

  pub is-sized : (minus (to_bits binary64 x) ≡ s) × (size (to_bits binary64 x) * c ≡ a * 2 ^ 1074)
  is-sized =
      let b = to_bits binary64 x in
      same-worth (of_fields binary64 (minus b) (exponent b) (digits b)) (fields-worth (minus b) (exponent b) (digits b) is_number) read_back

  pub is-worth : Is (to_bits binary64 x) (signed s a) c
  is-worth =
      let b = to_bits binary64 x in
      record {
        word = to_bits-lt binary64 x f;
        number = is_number;
        equal = times (minus b) (size b) c ∙ ap (λ (t : Bool). signed t (size b * c)) is-sized.0 ∙ ap (signed s) is-sized.1 ∙ sym (times s a (2 ^ 1074));
      }
