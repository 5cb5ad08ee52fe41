-- Order is kept by readings: a size is rounded by a division, whose quotient never falls where the dividend grows, and grows by one where that grows by the divisor.
use Rattle.std.specs.Prelude.{◌≡◌, refl, ◌≢◌, ℤ, ◌≤ℤ◌}
use Rattle.std.proofs.Math.Path.{sym, ap}
use Rattle.std.proofs.Common.{◌∙◌, add-mul, mul-pos, mul_left_comm, div-mul-le_self, le-div_iff_mul-le, arith, pow_pos}
use Rattle.std.proofs.Math.Logic.{by_cases}
use Prim.Native.Nat.{ℕ, zero, suc, ◌+◌, ◌*◌, ◌^◌, ◌≤◌, ◌<◌}
use Rattle.std.proofs.Math.Decide.{dec_lt}
use Rattle.std.proofs.Math.Dec.{leb→le, le→leb}
use Rattle.std.proofs.Math.IntN.{pos, negsuc, neg_ℤ, pos-ne-negsuc}
use Rattle.channels.specs.declared.Attribute.{Attribute}
use Rattle.channels.specs.declared.Place.TheVariants.{Number}
use Rattle.refusals.specs.Stages.{require, or_else}
use Rattle.refusals.specs.Ranges.{first_misfit}
use Rattle.calibration.specs.Reading as calibration
use Rattle.calibration.specs.Reading.{exponent_by, fraction_by}
use Rattle.calibration.proofs.Laws.{value_read, value-placed}
use Rattle.readings.specs.Thousandths.{half_up, nearest, denominator, thousandths}
use Rattle.readings.proofs.Laws.{thousandths-opposite, below, below-pos}
use Rattle.readings.specs.Order.{ReadsAs, PlaceReadsAs, KeepsOrder, KeepsApart, AtMostThousand}

-- ---- Quotients and signs

-- where n is k divisors or more above m, it is rounded to k or more above what m is
grows : (k m n d : ℕ) → 0 < d → m + k * d ≤ n → half_up m d + k ≤ half_up n d
grows k m n d some h =
    let l = div-mul-le_self (2 * m + d) (2 * d) in
    (le-div_iff_mul-le {k = 2 * d} {x = half_up m d + k} {y = 2 * n + d} (omega arith)).1 (rw (add-mul (half_up m d) k (2 * d), mul_left_comm k 2 d) (omega arith))

opposite-order : (m n : ℕ) → n ≤ m → neg_ℤ (pos m) ≤ℤ neg_ℤ (pos n)
opposite-order zero zero h = record { le = tt }
opposite-order zero (suc n) h = absurd (omega arith)
opposite-order (suc m) n h = below m n h

opposite-other : (m n : ℕ) → 0 < n → pos m ≢ neg_ℤ (pos n)
opposite-other m zero h = absurd (omega arith)
opposite-other m (suc n) h = pos-ne-negsuc m n

-- ---- Thousandths by one scale

module _ (e f : ℕ) where
  -- the size of the thousandths of a raw number of size a
  abbrev size : ℕ → ℕ
  size a = half_up (2 ^ 27 * (1000 * a)) (denominator e f)

  size-grows : (k a b : ℕ) → 2 ^ 27 * (1000 * a) + k * denominator e f ≤ 2 ^ 27 * (1000 * b) → size a + k ≤ size b
  size-grows k a b h = grows k (2 ^ 27 * (1000 * a)) (2 ^ 27 * (1000 * b)) (denominator e f) (mul-pos (omega arith) (pow_pos e)) h

  size-order : (a b : ℕ) → a ≤ b → size a ≤ size b
  size-order a b h = let s = size-grows 0 a b (omega arith) in omega arith

  below-zero : (a : ℕ) → thousandths (negsuc a) e f ≡ neg_ℤ (pos (size (suc a)))
  unfolding thousandths nearest
  below-zero a = thousandths-opposite (pos (suc a)) e f

  order : (a b : ℤ) → a ≤ℤ b → thousandths a e f ≤ℤ thousandths b e f
  unfolding thousandths nearest
  order (pos a) (pos b) h = record { le = le→leb (size a) (size b) (size-order a b (leb→le a b h.le)) }
  order (pos a) (negsuc b) h = absurd h.le
  order (negsuc a) (pos b) h = rw (below-zero a) (below-pos (size b) (size (suc a)))
  order (negsuc a) (negsuc b) h =
      let l = leb→le b a h.le in
      rw (below-zero a, below-zero b) (opposite-order (size (suc a)) (size (suc b)) (size-order (suc b) (suc a) (omega arith)))

  -- one raw number more is a divisor more, or several, in what is divided
  module _ (fine : AtMostThousand e f) where
    size-apart : (a b : ℕ) → a < b → size a < size b
    size-apart a b h = let s = size-grows 1 a b (omega arith) in omega arith

    one_size : (a b : ℕ) → size a ≡ size b → a ≡ b
    one_size a b t =
        by_cases (dec_lt a b)
        (λ h. let s = size-apart a b h in absurd (omega arith))
        (λ h. by_cases (dec_lt b a) (λ k. let s = size-apart b a k in absurd (omega arith)) (λ k. omega arith))

    some : (a : ℕ) → 0 < size (suc a)
    some a = let s = size-apart 0 (suc a) (omega arith) in omega arith

    one-raw : (a b : ℤ) → thousandths a e f ≡ thousandths b e f → a ≡ b
    unfolding thousandths nearest
    one-raw (pos a) (pos b) t = ap pos (one_size a b (cc))
    one-raw (pos a) (negsuc b) t = absurd (opposite-other (size a) (size (suc b)) (some b) (t ∙ below-zero b))
    one-raw (negsuc a) (pos b) t = absurd (opposite-other (size b) (size (suc a)) (some a) (sym t ∙ below-zero a))
    one-raw (negsuc a) (negsuc b) t =
        let s = thousandths-opposite (negsuc a) e f ∙ ap neg_ℤ t ∙ sym (thousandths-opposite (negsuc b) e f) in
        let n : suc a ≡ suc b = one_size (suc a) (suc b) (cc) in
        ap negsuc (omega arith)

-- ---- What to_thousandths answers

module _ (e f : ℕ) where
  pub to-thousandths-keeps-order : KeepsOrder (ReadsAs e f)
  to-thousandths-keeps-order raw other x y h p q = rw ((value_read thousandths raw e f x p).is, (value_read thousandths other e f y q).is) (order e f raw other h)

  pub to-thousandths-keeps-apart : AtMostThousand e f → KeepsApart (ReadsAs e f)
  to-thousandths-keeps-apart fine raw other x y h p q t = h (one-raw e f fine raw other (sym (value_read thousandths raw e f x p).is ∙ t ∙ (value_read thousandths other e f y q).is))

-- ---- What place_thousandths answers, of number places of one channel: they are read by one E and F

module _ (scaling : Attribute) where
  by-one-scale : (raw x : ℤ) → PlaceReadsAs scaling raw x → x ≡ thousandths raw (exponent_by scaling) (fraction_by scaling)
  by-one-scale raw x h = (value-placed thousandths (Number raw) scaling x h).is

  pub place-thousandths-keeps-order : KeepsOrder (PlaceReadsAs scaling)
  place-thousandths-keeps-order raw other x y h p q = rw (by-one-scale raw x p, by-one-scale other y q) (order (exponent_by scaling) (fraction_by scaling) raw other h)

  pub place-thousandths-keeps-apart : AtMostThousand (exponent_by scaling) (fraction_by scaling) → KeepsApart (PlaceReadsAs scaling)
  place-thousandths-keeps-apart fine raw other x y h p q t = h (one-raw (exponent_by scaling) (fraction_by scaling) fine raw other (sym (by-one-scale raw x p) ∙ t ∙ by-one-scale other y q))

-- ---- The bound is sharp

-- at E 25, F 1953, just above 1000, two neighbours share a reading
pub neighbours-share : ReadsAs 25 1953 (pos 2000) (pos 2000) × ReadsAs 25 1953 (pos 2001) (pos 2000)
unfolding calibration.reading calibration.numbers first_misfit or_else require calibration.read_where thousandths nearest
neighbours-share = (refl, refl)

-- at E 25, F 1952, just 1000, none do
pub none-share : ((2048 + 1952) * 2 ^ 25 ≡ 1000 * 2 ^ 27) × KeepsApart (ReadsAs 25 1952)
none-share = (refl, to-thousandths-keeps-apart 25 1952 (omega arith))
