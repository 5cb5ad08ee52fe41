-- The quotient is nearer to the exact fraction than any other double: it is less than half a step away, and every other is whole steps from the quotient or below all doubles with this step.
use Rattle.std.specs.Prelude.{◌≡◌, refl, ◌≢◌, Bool, true, false, not, cond, T, ltb, ℤ, pos, negsuc, nat_abs, ◌*ℤ◌, ◌-ℤ◌}
use Rattle.std.proofs.Common.{sym, ap, ◌∙◌, mul_assoc, mul-le-mul, mul-le-mul_left, mul-le-mul_right, mul-lt-mul_of_pos_right, le-div_iff_mul-le, div-add-mod', mod-lt, lt_of_lt_of_le, lt_trans, lt_irrefl, le_trans, zero-lt-suc, pow-suc, ltb-true, ltb-false, leb→le, eqb→eq, lit≤, pow-add, pow_pos, pow_mono}
use Rattle.std.proofs.Math.Logic.{by_cases}
use Prim.Native.Nat.{ℕ, zero, suc, ◌+◌, ◌-◌, ◌*◌, ◌/◌, ◌%◌, ◌^◌, ◌≤◌, ◌<◌, compare, Ordering}
use Rattle.std.proofs.Math.Decide.{dec_lt, ℕ_discrete}
use Rattle.std.proofs.Math.Nat.{mul-pos, eq_of_mul-eq-mul_right}
use native.Mathlib.Omega.{arith}
use Rattle.std.proofs.Math.Dec.{is_le, compare_is_eq, nleb→lt}
use Rattle.std.proofs.Math.IntN.{sub_ℕ, ℤ_discrete}
use Rattle.std.specs.Float.{binary64}
use Rattle.std.specs.Float.Ieee.{nearest}
use Rattle.std.specs.Float.Ieee.Digits.{size_reaches}
use Rattle.std.specs.Float.Ieee.Bits.{to_bits-lt}
use Rattle.std.specs.Float.Ieee.Nearest.{closest}
use Rattle.std.specs.Float.Ieee.Order.{drop, kept}
use Rattle.std.specs.Float.Ieee.Scale.{grid, normal_of_fraction}
use Rattle.calibration.specs.Reading.{InRange}
use Rattle.doubles.specs.Double.{minus, exponent, digits, size_by, size, signed, units}
use Rattle.doubles.proofs.DoubleLaws.{under, digits_in, same_bits}
use Rattle.doubles.proofs.ValueLaws.{times, is_number, is-sized}
use Rattle.doubles.specs.Quotient.{bits_of, negative, quotient}
use Rattle.doubles.proofs.QuotientLaws.{held, worth-at}
use Rattle.doubles.specs.Nearest.{distance, Nearest}

-- ---- How far two numbers are apart

abbrev gap : ℕ → ℕ → ℕ
gap a b = (a - b) + (b - a)

difference : (a b : ℕ) → nat_abs (sub_ℕ a b) ≡ gap a b
difference a b = go (ltb a b) refl
  where
    go : (t : Bool) → ltb a b ≡ t → nat_abs (cond t (negsuc (b - suc a)) (pos (a - b))) ≡ gap a b
    go true h = omega (arith, ltb-true a b h)
    go false h = omega (arith, ltb-false a b h)

like-signs : (s : Bool) (a b : ℕ) → nat_abs (signed s a -ℤ signed s b) ≡ gap a b
like-signs false a zero = omega arith
like-signs false a (suc b) = difference a (suc b)
like-signs true zero zero = refl
like-signs true zero (suc b) = omega arith
like-signs true (suc a) zero = omega (arith, difference 0 (suc a))
like-signs true (suc a) (suc b) = omega (arith, difference (suc b) (suc a))

unlike-signs : (s : Bool) (a b : ℕ) → nat_abs (signed (not s) a -ℤ signed s b) ≡ a + b
unlike-signs true a zero = refl
unlike-signs true a (suc b) = refl
unlike-signs false zero zero = refl
unlike-signs false zero (suc b) = omega (arith, difference 0 (suc b))
unlike-signs false (suc a) zero = omega (arith, difference 0 (suc a))
unlike-signs false (suc a) (suc b) = omega arith

-- ---- The nearest multiple of a step u: where there is no tie, it is less than half a step away

half_step : (n u : ℕ) → 0 < u → n % u * 2 ≢ u → gap (closest n u * u) n * 2 < u
half_step n u U h = go (compare (n % u * 2) u) (leb→le (n % u * 2) u) (nleb→lt (n % u * 2) u) (eqb→eq (n % u * 2) u)
  where
    go : (o : Ordering) → (T (is_le o) → n % u * 2 ≤ u) → (T (not (is_le o)) → u < n % u * 2) → (T (compare_is_eq o) → n % u * 2 ≡ u) → gap (nearest (n / u) o * u) n * 2 < u
    go Ordering.lt l g e = omega (arith, l tt, div-add-mod' n u)
    go Ordering.eq l g e = absurd (h (e tt))
    go Ordering.gt l g e = omega (arith, g tt, div-add-mod' n u, mod-lt n U)

-- q · u is less than half a step from n
module _ (n u q : ℕ) (half : gap (q * u) n * 2 < u) where
  other-multiple : (j : ℕ) → j ≢ q → gap (q * u) n < gap (j * u) n
  other-multiple j k = by_cases (dec_lt j q)
      (λ l. omega (arith, mul-le-mul_right u l))
      (λ l. let g : q < j = omega arith in omega (arith, mul-le-mul_right u g))

  below-a-multiple : (j m : ℕ) → m < j * u → j * u ≤ n → gap (q * u) n < gap m n
  below-a-multiple j m l g = by_cases (ℕ_discrete j q)
      (λ e. let k : j * u ≡ q * u = ap (λ (x : ℕ). x * u) e in omega arith)
      (λ k. let o = other-multiple j k in omega arith)

-- ---- There is no tie: at a tie twice n is an odd multiple of the step, and an odd number that divides a · 2^j divides a

halved : (w c p : ℕ) → (w * 2 + 1) * c ≡ p * 2 → (w * 2 + 1) * (c / 2) ≡ p
halved w c p h =
    let e : c / 2 * 2 ≡ c = omega arith in
    eq_of_mul-eq-mul_right 2 (omega arith) ((w * 2 + 1) * (c / 2)) p (mul_assoc (w * 2 + 1) (c / 2) 2 ∙ ap (λ (x : ℕ). (w * 2 + 1) * x) e ∙ h)

doubled : (a j : ℕ) → a * 2 ^ suc j ≡ a * 2 ^ j * 2
doubled a j = rw (pow-suc, mul_assoc)

odd-divisor : (j w c a : ℕ) → 0 < a → (w * 2 + 1) * c ≡ a * 2 ^ j → w * 2 < a
odd-divisor zero w zero a A h = absurd (omega arith)
odd-divisor zero w (suc c) a A h = omega arith
odd-divisor (suc j) w c a A h = odd-divisor j w (c / 2) a A (halved w c (a * 2 ^ j) (h ∙ doubled a j))

no_tie : (j w u r a : ℕ) → 0 < a → a ≤ w → w * u + r ≡ a * 2 ^ j → r * 2 ≢ u
no_tie j w u r a A l h t =
    let e : (w * 2 + 1) * u ≡ a * 2 ^ suc j = omega (arith, doubled a j) in
    let k = odd-divisor (suc j) w u a A e in
    absurd (omega arith)

-- ---- A double is a multiple of 2^k, or below 2^52 of it

multiple : (k x g : ℕ) → k < x → (j : ℕ) × (size_by x g ≡ j * 2 ^ k)
unfolding size_by
multiple k zero g h = absurd (omega arith)
multiple k (suc x) g h =
    let e : x - k + k ≡ x = omega arith in
    ((2 ^ 52 + g) * 2 ^ (x - k), rw (mul_assoc, ← pow-add 2 (x - k) k, e))

below_steps : (k x g : ℕ) → x ≤ k → g < 2 ^ 52 → size_by x g < 2 ^ 52 * 2 ^ k
below_steps k x g h l = lt_of_lt_of_le (under x g l) (mul-le-mul_left (2 ^ 52) (pow_mono {i = x} {j = k} h))

-- ---- A fraction of at least 2^52 units is at least 2^52 of its steps, since all digits but 53 are dropped

reordered : (c d p : ℕ) → c * (d * p) ≡ c * p * d
reordered c d p = omega arith

in-steps : (a d : ℕ) → 0 < d → 2 ^ 52 * d ≤ a * 2 ^ 1074 → 2 ^ 52 * (d * 2 ^ drop 53 (a * 2 ^ 1074) d) ≤ a * 2 ^ 1074
in-steps a d D h =
    let n = a * 2 ^ 1074 in
    let k = drop 53 n d in
    let r = size_reaches (n / d) (52 + k) (omega (arith, normal_of_fraction binary64 a d D h)) in
    rw (reordered (2 ^ 52) d (2 ^ k), ← pow-add 2 52 k) ((le-div_iff_mul-le D).0 r)

-- ---- Nearer than any other double, by size

-- q steps of 2^k units, against the double with the exponent x and the digits g
nearer : (n d k q : ℕ) → 0 < d → gap (q * (d * 2 ^ k)) n * 2 < d * 2 ^ k → 2 ^ 52 * (d * 2 ^ k) ≤ n
    → (x g : ℕ) → g < 2 ^ 52 → size_by x g ≢ q * 2 ^ k → gap (q * 2 ^ k * d) n < gap (size_by x g * d) n
nearer n d k q D half steps x g l h = rw (← reordered q d (2 ^ k)) (by_cases (dec_lt k x) by-steps below)
  where
    by-steps : k < x → gap (q * (d * 2 ^ k)) n < gap (size_by x g * d) n
    by-steps b =
        let m = multiple k x g b in
        rw (m.1, ← reordered m.0 d (2 ^ k)) (other-multiple n (d * 2 ^ k) q half m.0 (λ z. h (m.1 ∙ ap (λ (y : ℕ). y * 2 ^ k) z)))

    below : (k < x → ⊥) → gap (q * (d * 2 ^ k)) n < gap (size_by x g * d) n
    below b = below-a-multiple n (d * 2 ^ k) q half (2 ^ 52) (size_by x g * d) (rw (reordered (2 ^ 52) d (2 ^ k)) (mul-lt-mul_of_pos_right (below_steps k x g (omega arith) l) D)) steps

-- where n is zero, so is q
none : (d k q : ℕ) → 0 < d → gap (q * (d * 2 ^ k)) 0 * 2 < d * 2 ^ k → (m : ℕ) → m ≢ q * 2 ^ k → gap (q * 2 ^ k * d) 0 < gap (m * d) 0
none d k zero D half m h = let M : 0 < m = omega arith in omega (arith, mul-pos M D)
none d k (suc q) D half m h = absurd (omega arith)

-- a · 2^27 / d, rounded
nearest-size : (d : ℕ) → 0 < d → d ≤ 2 ^ 43 → (a : ℕ) → a ≤ 65535 → (x g : ℕ) → g < 2 ^ 52 → size_by x g ≢ grid binary64 (a * 2 ^ 27) d
    → gap (grid binary64 (a * 2 ^ 27) d * d) (a * 2 ^ 27 * 2 ^ 1074) < gap (size_by x g * d) (a * 2 ^ 27 * 2 ^ 1074)
nearest-size d D R zero A x g l h =
    let k = drop 53 0 d in
    let u = d * 2 ^ k in
    let U : 0 < u = mul-pos D (pow_pos k) in
    none d k (kept 53 0 d) D (half_step 0 u U (λ t. omega (arith, t, div-add-mod' 0 u))) (size_by x g) h
nearest-size d D R (suc a) A x g l h =
    let n = suc a * 2 ^ 27 * 2 ^ 1074 in
    let k = drop 53 n d in
    let u = d * 2 ^ k in
    let U : 0 < u = mul-pos D (pow_pos k) in
    let some : 1 ≤ suc a * 2 ^ 27 = omega arith in
    let few : suc a ≤ 2 ^ 52 = omega arith in
    let room : 2 ^ 52 * 2 ^ 43 ≤ 1 * 2 ^ 1074 = lit≤ tt in
    let steps : 2 ^ 52 * u ≤ n = in-steps (suc a * 2 ^ 27) d D (le_trans (mul-le-mul_left (2 ^ 52) R) (le_trans room (mul-le-mul_right (2 ^ 1074) some))) in
    let tie = no_tie (27 + 1074) (n / u) u (n % u) (suc a) (zero-lt-suc a) (le_trans few ((le-div_iff_mul-le U).1 steps)) (div-add-mod' n u ∙ mul_assoc (suc a) (2 ^ 27) (2 ^ 1074)) in
    nearer n d k (kept 53 n d) D (half_step n u U tie) steps x g l h

-- ---- With the signs

-- q is nearest to n / d by size, and has its sign
module _ (q n d : ℕ) (D : 0 < d) (near : (x g : ℕ) → g < 2 ^ 52 → size_by x g ≢ q → gap (q * d) n < gap (size_by x g * d) n) where
  -- zero is no nearer than q, and what has the other sign is beyond zero
  beyond-zero : (m : ℕ) → (q ≡ 0 → m ≢ 0) → gap (q * d) n < m * d + n
  unfolding size_by
  beyond-zero m h = by_cases (ℕ_discrete q 0)
      (λ e. let k = h e in let M : 0 < m = omega arith in rw e (omega (arith, mul-pos M D)))
      (λ k. omega (arith, near 0 0 (omega arith) (λ e. k (sym e))))

  nearest-signed : (s t : Bool) (x g : ℕ) → g < 2 ^ 52 → signed t (size_by x g) ≢ signed s q → nat_abs (signed s (q * d) -ℤ signed s n) < nat_abs (signed t (size_by x g * d) -ℤ signed s n)
  nearest-signed true true x g l h = rw (like-signs true (q * d) n, like-signs true (size_by x g * d) n) (near x g l (λ e. h (ap (signed true) e)))
  nearest-signed true false x g l h = rw (like-signs true (q * d) n, unlike-signs true (size_by x g * d) n) (beyond-zero (size_by x g) (λ e z. h (ap (signed false) z ∙ sym (ap (signed true) e))))
  nearest-signed false true x g l h = rw (like-signs false (q * d) n, unlike-signs false (size_by x g * d) n) (beyond-zero (size_by x g) (λ e z. h (ap (signed true) z ∙ sym (ap (signed false) e))))
  nearest-signed false false x g l h = rw (like-signs false (q * d) n, like-signs false (size_by x g * d) n) (near x g l (λ e. h (ap (signed false) e)))

-- ---- Nothing else is the nearest

module _ {a b : ℕ} {n : ℤ} {d : ℕ} (p : Nearest a n d) (q : Nearest b n d) where
  same_units : units a ≡ units b
  same_units = by_cases (ℤ_discrete (units a) (units b))
      (λ e. e)
      (λ k. absurd (lt_irrefl (distance a n d) (lt_trans (p.nearest b q.word q.number (λ e. k (sym e))) (q.nearest a p.word p.number k))))

  pub nearest-only : minus a ≡ minus b → a ≡ b
  nearest-only s = same_bits a b p.word q.word s same_units

-- ---- The quotient

scaled : (raw : ℤ) (c d : ℕ) → raw *ℤ pos c *ℤ pos d ≡ signed (negative raw) (nat_abs raw * c * d)
scaled (pos n) c d = refl
scaled (negsuc n) c d = times true (suc n * c) d

module _ (raw : ℤ) (e f : ℕ) (h : InRange raw e f) where
  abbrev bits : ℕ
  bits = bits_of (quotient raw e f)

  abbrev scale : ℕ
  scale = (2048 + f) * 2 ^ e

  -- what the size times the scale is to be near to
  abbrev target : ℕ
  target = nat_abs raw * 2 ^ 27 * 2 ^ 1074

  sized-at : size bits ≡ grid binary64 (nat_abs raw * 2 ^ 27) scale
  sized-at = eq_of_mul-eq-mul_right (2 ^ 1074) (pow_pos 1074) (size bits) (grid binary64 (nat_abs raw * 2 ^ 27) scale) (is-sized (held raw e f h) (worth-at raw e f h)).1

  some : 0 < scale
  some = mul-pos (omega arith) (pow_pos e)

  near-at : (x g : ℕ) → g < 2 ^ 52 → size_by x g ≢ size bits → gap (size bits * scale) target < gap (size_by x g * scale) target
  near-at x g l k =
      let m = h.fraction in
      let c : 2048 + f ≤ 2 ^ 12 = omega arith in
      rw sized-at (nearest-size scale some (mul-le-mul c (pow_mono {i = e} {j = 31} h.exponent)) (nat_abs raw) h.size x g l (λ z. k (z ∙ sym sized-at)))

  fraction-at : raw *ℤ pos (2 ^ 27) *ℤ pos (2 ^ 1074) ≡ signed (minus bits) target
  fraction-at = rw (is-sized (held raw e f h) (worth-at raw e f h)).0 (scaled raw (2 ^ 27) (2 ^ 1074))

  pub nearest-at : Nearest (bits_of (quotient raw e f)) (raw *ℤ pos (2 ^ 27)) ((2048 + f) * 2 ^ e)
  nearest-at = record {
    word = to_bits-lt binary64 (quotient raw e f) (held raw e f h);
    number = is_number (held raw e f h) (worth-at raw e f h);
    nearest = λ other w o k.
        rw (times (minus bits) (size bits) scale, times (minus other) (size other) scale, fraction-at)
        (nearest-signed (size bits) target scale some near-at (minus bits) (minus other) (exponent other) (digits other) (digits_in other) k);
  }
