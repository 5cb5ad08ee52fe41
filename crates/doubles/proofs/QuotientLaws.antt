-- The quotient is the exact fraction rounded once, for every F; where F is zero nothing is lost, since a division by a power of two moves no digit out of a double's range.
use Rattle.std.specs.Prelude.{◌≡◌, refl, Bool, true, false, cond, T, eqb, ℤ, pos, nat_abs, ◌*ℤ◌, Float}
use Rattle.std.proofs.Common.{sym, ap₂, ◌∙◌, subst, mul_assoc, mul_comm, mul-pos, mul-one, zero-mul, lt_of_lt_of_le, lt_of_le_of_lt, le_trans, lt_irrefl, mul-le-mul, div-le_self, arith, ne_eqb, lit<, pow-add, pow_pos, pow_mono, shl_lt}
use Rattle.std.proofs.Math.Path.{ap}
use Prim.Native.Nat.{ℕ, ◌+◌, ◌-◌, ◌*◌, ◌/◌, ◌%◌, ◌^◌, ◌≤◌, ◌<◌, compare}
use Rattle.std.proofs.Math.Nat.{mul-mul-mul_comm, div-div-eq-div-mul, eq_of_mul-eq-mul_right}
use Rattle.std.specs.Float.{nan, inf, fin}
use Rattle.std.specs.Float.Ieee.{binary64, unlike, up, down, round, div, to_bits, fits}
use Rattle.std.specs.Float.Ieee.Fits.{down_pos, nearest-le, kept-lt, round_is, div-fits}
use Rattle.std.specs.Float.Ieee.Digits.{size-le}
use Rattle.std.specs.Float.Ieee.Exact.{HasValue, units_val, round_exact}
use Rattle.std.specs.Float.Ieee.Bits.{to_bits-lt}
use Rattle.std.specs.Float.Ieee.Order.{drop, kept}
use Rattle.std.specs.Float.Ieee.Scale.{round_same, grid}
use Rattle.std.specs.Float.Ieee.Positive.{first_pos}
use Rattle.calibration.specs.Reading.{InRange}
use Rattle.doubles.specs.Double.{size_by, size, signed, Is}
use Rattle.doubles.proofs.DoubleLaws.{same_bits}
use Rattle.doubles.proofs.ValueLaws.{times, Worth, as-fraction, is-sized, is-worth}
use Rattle.doubles.specs.Quotient.{bits_of, raw_double, scale_double, negative, quotient}
use Rattle.doubles.proofs.OperandLaws.{by_sign, raw-worth, scale-worth}

-- ---- A division of two numbers is one rounding of their exact fraction

like-plus : (s : Bool) → unlike s false ≡ s
like-plus true = refl
like-plus false = refl

not-zero : (n u d b g : ℕ) → 0 < b → 0 < g → n * u * d ≡ b * g → eqb n 0 ≡ false
not-zero n u d b g B G h = ne_eqb n 0 (λ z. lt_irrefl 0 (subst (λ (x : ℕ). 0 < x) (sym h ∙ ap (λ (x : ℕ). x * u * d) z ∙ ap (λ (x : ℕ). x * d) (zero-mul u) ∙ zero-mul d) (mul-pos B G)))

-- m / de is a / c and n / dg is b / d
cross : (m n a b c d de dg : ℕ) → m * c ≡ a * de → n * d ≡ b * dg → m * dg * (b * c) ≡ a * d * (n * de)
cross m n a b c d de dg h k =
    ap (λ (x : ℕ). m * dg * x) (mul_comm b c)
    ∙ mul-mul-mul_comm m dg c b
    ∙ ap (λ (x : ℕ). x * (dg * b)) h
    ∙ ap (λ (x : ℕ). a * de * x) (mul_comm dg b ∙ sym k ∙ mul_comm n d)
    ∙ mul-mul-mul_comm a de d n
    ∙ ap (λ (x : ℕ). a * d * x) (mul_comm de n)

divided : (x y : Float) {s : Bool} {a c b d : ℕ} → 0 < b → 0 < c → 0 < d → Worth x s a c → Worth y false b d → div binary64 x y ≡ round binary64 s (a * d) (b * c)
unfolding div
divided nan y B C D v w = absurd v.worth
divided (inf t) y B C D v w = absurd v.worth
divided (fin t m e) nan B C D v w = absurd w.worth
divided (fin t m e) (inf u) B C D v w = absurd w.worth
divided (fin t m e) (fin u n g) {s} {a} {c} {b} {d} B C D v w =
    let r = round binary64 (unlike t u) (m * up e * down g) (n * up g * down e) in
    let z : eqb n 0 ≡ false = not-zero n (up g) d b (down g) B (down_pos g) w.worth.1 in
    ap (λ (q : Bool). cond q (cond (eqb m 0) nan (inf (unlike t u))) r) z
    ∙ ap (λ (q : Bool). round binary64 (unlike t q) (m * up e * down g) (n * up g * down e)) w.worth.0
    ∙ ap (λ (q : Bool). round binary64 q (m * up e * down g) (n * up g * down e)) (like-plus t ∙ v.worth.0)
    ∙ round_same binary64 s (m * up e * down g) (n * up g * down e) (a * d) (b * c) (mul-pos (first_pos (n * up g) d (subst (λ (x : ℕ). 0 < x) (sym w.worth.1) (mul-pos B (down_pos g)))) (down_pos e)) (mul-pos B C) (cross (m * up e) (n * up g) a b c d (down e) (down g) v.worth.1 w.worth.1)

-- ---- For every F: never an infinity or a NaN, and raw's sign

-- a fraction below 2^44 rounds to a number
kept_in : (n d : ℕ) → kept 53 n d ≤ 2 ^ 53
kept_in n d =
    let k = drop 53 n d in
    let u = d * 2 ^ k in
    le_trans (nearest-le (n / u) (compare (n % u * 2) u)) (subst (λ (x : ℕ). x < 2 ^ 53) (div-div-eq-div-mul n d (2 ^ k)) (kept-lt 53 (n / d)))

dropped : (n d : ℕ) → n / d < 2 ^ 1118 → drop 53 n d ≤ 1065
dropped n d h = let k = size-le (n / d) 1118 h in omega arith

rounded : (s : Bool) (a d : ℕ) → a < 2 ^ 44 → Worth (round binary64 s a d) s (grid binary64 a d) (2 ^ 1074)
rounded s a d h =
    let n = a * 2 ^ 1074 in
    let k = drop 53 n d in
    let l = dropped n d (lt_of_le_of_lt (div-le_self n d) (shl_lt 44 1074 h)) in
    let g : kept 53 n d * 2 ^ k < 2 ^ 2098 = lt_of_le_of_lt (mul-le-mul (kept_in n d) (pow_mono {i = k} {j = 1065} l)) (lit< tt) in
    record { worth = subst (λ (x : Float). HasValue x s (kept 53 n d * 2 ^ k) (2 ^ 1074)) (sym (round_is binary64 s a d)) (units_val binary64 s (kept 53 n d) k g) }

-- ---- Where F is zero

-- 2^(1090 - E) and 2^E together
whole-power : (e : ℕ) → e ≤ 31 → 2 ^ (1090 - e) * 2 ^ e ≡ 2 ^ 1090
whole-power e h =
    let k : 1090 - e + e ≡ 1090 = omega arith in
    sym (pow-add 2 (1090 - e) e) ∙ ap (λ (x : ℕ). 2 ^ x) k

gathered : (a x p : ℕ) → a * x * (2048 * p) ≡ a * (x * p * 2048)
gathered a x p = mul_assoc a x (2048 * p) ∙ ap (λ (y : ℕ). a * y) (ap (λ (y : ℕ). x * y) (mul_comm 2048 p) ∙ sym (mul_assoc x p 2048))

-- a · 2^27 over 2048 · 2^E, counted in the least double, is a doubled 1090 - E times
counted : (a e : ℕ) → e ≤ 31 → a * 2 ^ 27 * 2 ^ 1074 ≡ a * 2 ^ (1090 - e) * (2048 * 2 ^ e)
counted a e h = mul_assoc a (2 ^ 27) (2 ^ 1074) ∙ sym (gathered a (2 ^ (1090 - e)) (2 ^ e) ∙ ap (λ (x : ℕ). a * (x * 2048)) (whole-power e h))

in_reach : (a e : ℕ) → a < 2 ^ 17 → a * 2 ^ (1090 - e) < 2 ^ 2098
in_reach a e h = lt_of_lt_of_le (shl_lt 17 (1090 - e) h) (pow_mono {i = 17 + (1090 - e)} {j = 2098} (omega arith))

reduced : (a p : ℕ) → a * 2 ^ 27 * p ≡ a * 2 ^ 16 * (2048 * p)
reduced a p = omega arith

by-power : (s : Bool) (a e : ℕ) → a < 2 ^ 17 → e ≤ 31 → Worth (round binary64 s (a * 2 ^ 27) (2048 * 2 ^ e)) s (a * 2 ^ 16) (2 ^ e)
by-power s a e h he =
    let d = 2048 * 2 ^ e in
    let D : 0 < d = mul-pos (omega arith) (pow_pos e) in
    as-fraction (round binary64 s (a * 2 ^ 27) d) (a * 2 ^ 16) (2 ^ e) D (reduced a (2 ^ e)) (record { worth = round_exact binary64 s (a * 2 ^ 27) d a (1090 - e) D (lt_of_lt_of_le h (pow_mono {i = 17} {j = 53} (omega arith))) (in_reach a e h) (counted a e he) })

-- ---- Where raw is zero

plus-zero-bits : {x : Float} {c : ℕ} → 0 < c → T (fits binary64 x) → Worth x false 0 c → bits_of x ≡ 0
unfolding size_by
plus-zero-bits {x} {c} C f v =
    let b = to_bits binary64 x in
    let k = is-sized f v in
    let z : size b ≡ 0 = eq_of_mul-eq-mul_right c C (size b) 0 (k.1 ∙ zero-mul (2 ^ 1074) ∙ sym (zero-mul c)) in
    same_bits b 0 (to_bits-lt binary64 x f) (lit< tt) k.0 (ap₂ signed k.0 z)

zero-worth : (d : ℕ) → 0 < d → Worth (round binary64 false 0 d) false 0 d
zero-worth d D = record { worth = round_exact binary64 false 0 d 0 0 D (pow_pos 53) (pow_pos 2098) (sym (zero-mul d)) }

-- ---- What is promised of it

small : (n : ℕ) → n ≤ 65535 → n < 2 ^ 17
small n h = omega arith

module _ (raw : ℤ) (e f : ℕ) (h : InRange raw e f) where
  abbrev numerator : ℕ
  numerator = nat_abs raw * 2 ^ 27

  abbrev denominator : ℕ
  denominator = (2048 + f) * 2 ^ e

  -- for every F
  pub rounded-once : quotient raw e f ≡ round binary64 (negative raw) numerator denominator
  unfolding quotient
  rounded-once =
      let s = h.size in
      divided (raw_double raw) (scale_double e f) (mul-pos (omega arith) (pow_pos e)) (omega arith) (pow_pos 27) (raw-worth raw (omega arith)) (scale-worth e f h.exponent h.fraction)
      ∙ ap (round binary64 (negative raw) numerator) (mul-one denominator)

  pub held : T (fits binary64 (quotient raw e f))
  unfolding quotient
  held = div-fits binary64 (raw_double raw) (scale_double e f)

  pub worth-at : Worth (quotient raw e f) (negative raw) (grid binary64 numerator denominator) (2 ^ 1074)
  worth-at =
      let s = h.size in
      subst (λ (x : Float). Worth x (negative raw) (grid binary64 numerator denominator) (2 ^ 1074)) (sym rounded-once) (rounded (negative raw) numerator denominator (omega arith))

  pub exact-at : f ≡ 0 → Is (bits_of (quotient raw e f)) (raw *ℤ pos (2 ^ 16)) (2 ^ e)
  exact-at z =
      let n = nat_abs raw in
      let s = negative raw in
      let q : quotient raw e f ≡ round binary64 s numerator (2048 * 2 ^ e) = rounded-once ∙ ap (λ (x : ℕ). round binary64 s numerator ((2048 + x) * 2 ^ e)) z in
      let w : Worth (quotient raw e f) s (n * 2 ^ 16) (2 ^ e) = subst (λ (x : Float). Worth x s (n * 2 ^ 16) (2 ^ e)) (sym q) (by-power s n e (small n h.size) h.exponent) in
      subst (λ (y : ℤ). Is (bits_of (quotient raw e f)) y (2 ^ e)) (sym (times s n (2 ^ 16)) ∙ ap (λ (y : ℤ). y *ℤ pos (2 ^ 16)) (by_sign raw)) (is-worth held w)

  pub zero-at : raw ≡ pos 0 → bits_of (quotient raw e f) ≡ 0
  zero-at z =
      let D : 0 < denominator = mul-pos (omega arith) (pow_pos e) in
      let q : quotient raw e f ≡ round binary64 false 0 denominator = rounded-once ∙ ap (λ (y : ℤ). round binary64 (negative y) (nat_abs y * 2 ^ 27) denominator) z in
      plus-zero-bits D held (subst (λ (x : Float). Worth x false 0 denominator) (sym q) (zero-worth denominator D))
