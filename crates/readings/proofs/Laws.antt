-- What follows for readings: each is the nearest whole number, the only one; the sign is kept; how far they reach.
use Rattle.std.specs.Prelude.{◌≡◌, refl, ℕ, zero, suc, ◌+◌, ◌*◌, ◌^◌, ◌≤◌, ◌<◌, ℤ, pos, negsuc, neg_ℤ, ◌*ℤ◌, ◌≤ℤ◌}
use Rattle.std.proofs.Math.Path.{ap}
use Rattle.std.proofs.Common.{◌∙◌, add-mul, mul-pos, mul_left_comm, mul-le-mul, mul-le-mul_left, div-lt_iff_lt-mul, arith, leb→le, le→leb, pow_pos}
use Rattle.std.proofs.Math.IntN.{*ℤ_comm}
use Rattle.readings.specs.Thousandths.{half_up, nearest, numerator, denominator, thousandths}
use Rattle.readings.specs.NearestLaws.{Nearest, times-opposite}
use Rattle.readings.proofs.NearestLaws.{nearest-is, nearest-only, nearest-opposite}

-- ---- The number

denominator-some : (e f : ℕ) → 0 < denominator e f
denominator-some e f = mul-pos (omega arith) (pow_pos e)

by-opposite : (k : ℕ) (z : ℤ) → pos k *ℤ neg_ℤ z ≡ neg_ℤ (pos k *ℤ z)
by-opposite k z = *ℤ_comm (pos k) (neg_ℤ z) ∙ times-opposite z k ∙ ap neg_ℤ (*ℤ_comm z (pos k))

module _ (raw : ℤ) (e f : ℕ) where
  -- the nearest to 2^27 · 1000 · raw / ((2048 + F) · 2^E), a half going away from zero, and the only one
  pub thousandths-is : Nearest (numerator raw) (denominator e f) (thousandths raw e f)
  unfolding thousandths
  thousandths-is = nearest-is (denominator e f) (denominator-some e f) (numerator raw)

  pub thousandths-only : (q : ℤ) → Nearest (numerator raw) (denominator e f) q → q ≡ thousandths raw e f
  unfolding thousandths
  thousandths-only q h = nearest-only (denominator e f) (denominator-some e f) (numerator raw) q h

  numerator-opposite : numerator (neg_ℤ raw) ≡ neg_ℤ (numerator raw)
  numerator-opposite = ap (λ z. pos (2 ^ 27) *ℤ z) (by-opposite 1000 raw) ∙ by-opposite (2 ^ 27) (pos 1000 *ℤ raw)

  pub thousandths-opposite : thousandths (neg_ℤ raw) e f ≡ neg_ℤ (thousandths raw e f)
  unfolding thousandths
  thousandths-opposite = ap (λ z. nearest z (denominator e f)) numerator-opposite ∙ nearest-opposite (denominator e f) (denominator-some e f) (numerator raw)

-- ---- The ends

-- a denominator is 2048 or more, so a reading is at most 65536000 times its raw number
most : (k d : ℕ) → 2048 ≤ d → half_up (2048 * k) d ≤ k
most k d h =
    let m : k * 2048 ≤ k * d = mul-le-mul_left k h in
    let l : 2 * (2048 * k) + d < (k + 1) * (2 * d) = rw (add-mul k 1 (2 * d), mul_left_comm k 2 d) (omega arith) in
    let b : half_up (2048 * k) d < k + 1 = (div-lt_iff_lt-mul {k = 2 * d} {x = 2 * (2048 * k) + d} {y = k + 1} (omega arith)).1 l in
    omega arith

size : (a e f : ℕ) → half_up (2 ^ 27 * (1000 * a)) (denominator e f) ≤ 65536000 * a
size a e f =
    let d : 2048 ≤ denominator e f = mul-le-mul {n₁ = 2048} {m₁ = 1} {n₂ = 2048 + f} {m₂ = 2 ^ e} (omega arith) (pow_pos e) in
    let n : 2 ^ 27 * (1000 * a) ≡ 2048 * (65536000 * a) = omega arith in
    rw n (most (65536000 * a) (denominator e f) d)

pub below : (k m : ℕ) → m ≤ suc k → negsuc k ≤ℤ neg_ℤ (pos m)
below k zero h = record { le = tt }
below k (suc m) h = record { le = le→leb m k (omega arith) }

pub below-pos : (k m : ℕ) → neg_ℤ (pos m) ≤ℤ pos k
below-pos k zero = record { le = le→leb 0 k (omega arith) }
below-pos k (suc m) = record { le = tt }

pub ends : (raw : ℤ) (e f : ℕ) → negsuc 32767 ≤ℤ raw → raw ≤ℤ pos 65535 → (negsuc 2147483647999 ≤ℤ thousandths raw e f) × (thousandths raw e f ≤ℤ pos 4294901760000)
unfolding thousandths nearest
ends (pos a) e f l h =
    let t = leb→le a 65535 h.le in
    let s = size a e f in
    (record { le = tt }, record { le = le→leb (half_up (2 ^ 27 * (1000 * a)) (denominator e f)) 4294901760000 (omega arith) })
ends (negsuc a) e f l h =
    let t = leb→le a 32767 l.le in
    let s = size (suc a) e f in
    rw (thousandths-opposite (pos (suc a)) e f) (below 2147483647999 (half_up (2 ^ 27 * (1000 * suc a)) (denominator e f)) (omega arith), below-pos 4294901760000 (half_up (2 ^ 27 * (1000 * suc a)) (denominator e f)))

-- both are met
pub ends-met : (thousandths (negsuc 32767) 0 0 ≡ negsuc 2147483647999) × (thousandths (pos 65535) 0 0 ≡ pos 4294901760000)
unfolding thousandths nearest
ends-met = (refl, refl)
