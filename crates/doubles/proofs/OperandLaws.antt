-- The operands are exact: raw in its range is a double of its own, and the scale's bits are those of the scale.
use Rattle.std.specs.Prelude.{◌≡◌, refl, Bool, true, false, not, ◌&&◌, ℕ, suc, ◌+◌, ◌*◌, ◌^◌, ◌≤◌, ◌<◌, T, eqb, ℤ, pos, negsuc, nat_abs}
use Rattle.std.proofs.Common.{sym, ap, ◌∙◌, subst, mul_assoc, arith, ne_eqb, le→leb, lt→ltb, pow-add, pow_pos}
use Rattle.std.proofs.Math.Nat.{mul-mul-mul_comm}
use Rattle.std.proofs.lemmas.Bool.{lt-leb}
use Rattle.std.specs.Float.{binary64}
use Rattle.std.specs.Float.Ieee.{of_int, nan_bits, in_float}
use Rattle.std.specs.Float.Ieee.Fits.{of_int-fits}
use Rattle.std.specs.Float.Ieee.Back.{round_whole}
use Rattle.std.specs.Float.Ieee.Bits.{of_bits-fits}
use Rattle.doubles.specs.Double.{minus, exponent, digits, size_by, size, signed, Is}
use Rattle.doubles.proofs.ValueLaws.{Worth, as-fraction, bits-worth, is-worth}
use Rattle.doubles.specs.Quotient.{bits_of, raw_double, scale_bits, scale_double, negative}

-- ---- Raw

pub by_sign : (raw : ℤ) → signed (negative raw) (nat_abs raw) ≡ raw
by_sign (pos n) = refl
by_sign (negsuc n) = refl

pub raw-worth : (raw : ℤ) → nat_abs raw ≤ 2 ^ 53 → Worth (raw_double raw) (negative raw) (nat_abs raw) 1
unfolding of_int
raw-worth (pos n) h = record { worth = round_whole binary64 false n h }
raw-worth (negsuc n) h = record { worth = round_whole binary64 true (suc n) h }

pub raw-held : (raw : ℤ) → nat_abs raw ≤ 2 ^ 53 → T (in_float binary64 raw)
unfolding in_float
raw-held (pos n) h = le→leb n (2 ^ 53) h
raw-held (negsuc n) h = lt→ltb n (2 ^ 53) h

pub dividend-is : (raw : ℤ) → nat_abs raw ≤ 2 ^ 53 → Is (bits_of (raw_double raw)) raw 1
dividend-is raw h = subst (λ (z : ℤ). Is (bits_of (raw_double raw)) z 1) (by_sign raw) (is-worth (of_int-fits binary64 raw) (raw-worth raw h))

-- ---- The scale

scale-fields : (e f : ℕ) → e ≤ 31 → f ≤ 2047 → (scale_bits e f < 2 ^ 63) × (exponent (scale_bits e f) ≡ suc (e + 1006)) × (digits (scale_bits e f) ≡ f * 2 ^ 41)
scale-fields e f he hf = (omega arith, omega arith, omega arith)

shuffled : (a x p y z : ℕ) → a * x * (p * y) * z ≡ a * p * (x * y * z)
shuffled a x p y z = ap (λ (w : ℕ). w * z) (mul-mul-mul_comm a x p y) ∙ mul_assoc (a * p) (x * y) z

scale-size : (e f : ℕ) → size_by (suc (e + 1006)) (f * 2 ^ 41) * 2 ^ 27 ≡ (2048 + f) * 2 ^ e * 2 ^ 1074
unfolding size_by
scale-size e f =
    let d : 2 ^ 52 + f * 2 ^ 41 ≡ (2048 + f) * 2 ^ 41 = omega arith in
    rw (d, pow-add 2 e 1006) (shuffled (2048 + f) (2 ^ 41) (2 ^ e) (2 ^ 1006) (2 ^ 27))

-- below the exponent of eleven ones no bits are a NaN's
pub bits-number : (bits : ℕ) → exponent bits < 2047 → T (not (nan_bits binary64 bits))
unfolding nan_bits
bits-number bits h =
    let z : eqb (exponent bits) 2047 ≡ false = ne_eqb (exponent bits) 2047 (λ e. omega (arith, e, h)) in
    subst (λ (t : Bool). T (not (t && not (eqb (digits bits) 0)))) (sym z) tt

module _ (e f : ℕ) (he : e ≤ 31) (hf : f ≤ 2047) where
  pub scale-worth : Worth (scale_double e f) false ((2048 + f) * 2 ^ e) (2 ^ 27)
  scale-worth =
      let b = scale_bits e f in
      let k = scale-fields e f he hf in
      let l : exponent b < 2047 = rw k.1 (omega arith) in
      let m : minus b ≡ false = lt-leb (2 ^ 63) b k.0 in
      let w = subst (λ (t : Bool). Worth (scale_double e f) t (size b) (2 ^ 1074)) m (bits-worth b l) in
      let z : size b ≡ size_by (suc (e + 1006)) (f * 2 ^ 41) = ap (λ (x : ℕ). size_by x (digits b)) k.1 ∙ ap (size_by (suc (e + 1006))) k.2 in
      as-fraction (scale_double e f) ((2048 + f) * 2 ^ e) (2 ^ 27) (pow_pos 1074) (ap (λ (x : ℕ). x * 2 ^ 27) z ∙ scale-size e f) w

  pub divisor-is : Is (bits_of (scale_double e f)) (pos ((2048 + f) * 2 ^ e)) (2 ^ 27)
  divisor-is = is-worth (of_bits-fits binary64 (scale_bits e f)) scale-worth
