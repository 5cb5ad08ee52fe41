-- What `nearest` is, over whole numbers: at most half of d off, a half going away from zero; nothing else is; and what that says around zero.
use Rattle.std.specs.Prelude.{◌≡◌, ℕ, suc, ◌+◌, ◌*◌, ◌≤◌, ◌<◌, ℤ, pos, negsuc, nat_abs, ◌+ℤ◌, ◌-ℤ◌, ◌*ℤ◌}
use Rattle.std.proofs.Math.Path.{sym, ap}
use Rattle.std.proofs.Common.{◌∙◌, subst, div-add-mod', mod-lt, add-mul, mul_left_comm, suc-mul, zero-mul, arith}
use Rattle.std.proofs.Math.Logic.{by_cases}
use Rattle.std.proofs.Math.Nat.{div-eq_of_lt-le}
use Rattle.std.proofs.Math.Decide.{dec_lt}
use Rattle.std.proofs.Math.IntN.{neg_ℤ, +ℤ_idr, +ℤ_invr, neg_ℤ-neg_ℤ}
use Rattle.readings.specs.Thousandths.{half_up, nearest}
use Rattle.readings.specs.NearestLaws.{Nearest, apart, opposite}

-- ---- Nearest, of a fraction that is not negative

module _ (a d : ℕ) (some : 0 < d) where
  -- 2a + d lies in the span of 2d that begins at 2d times the nearest number
  spans : (half_up a d * (2 * d) ≤ 2 * a + d) × (2 * a + d < (half_up a d + 1) * (2 * d))
  spans =
      let e = div-add-mod' (2 * a + d) (2 * d) in
      let r = mod-lt (2 * a + d) {m = 2 * d} (omega arith) in
      let u = half_up a d * (2 * d) in
      (omega (arith, e), rw (add-mul (half_up a d) 1 (2 * d)) (omega (arith, e, r)))

  is-nearest : Nearest (pos a) d (pos (half_up a d))
  is-nearest =
      let b = half_up a d in
      let l = rw (mul_left_comm b 2 d) at spans.0 in
      let u = rw (add-mul b 1 (2 * d), mul_left_comm b 2 d) at spans.1 in
      let e = apart a (b * d) in
      record { near = omega (arith, e, l, u); away = λ h. omega (arith, e, l, u) }

  only : (q : ℤ) → Nearest (pos a) d q → q ≡ pos (half_up a d)
  only (pos b) h =
      let e = apart a (b * d) in
      let n : 2 * nat_abs (pos a -ℤ pos b *ℤ pos d) ≤ d = h.near in
      let l : b * (2 * d) ≤ 2 * a + d = rw (mul_left_comm b 2 d) (omega arith) in
      let v : 2 * a < 2 * (b * d) + d = by_cases (dec_lt (2 * a) (2 * (b * d) + d)) (λ k. k) (λ k. let w = h.away (omega arith) in absurd (omega arith)) in
      let u : 2 * a + d < (b + 1) * (2 * d) = rw (add-mul b 1 (2 * d), mul_left_comm b 2 d) (omega arith) in
      ap pos (sym (div-eq_of_lt-le (2 * d) l u))
  -- of a number below zero the distance is d or more
  only (negsuc b) h =
      let n : 2 * nat_abs (pos a -ℤ neg_ℤ (pos (suc b * d))) ≤ d = h.near in
      let e : nat_abs (pos a -ℤ neg_ℤ (pos (suc b * d))) ≡ a + suc b * d = ap (λ z. nat_abs (pos a +ℤ z)) (neg_ℤ-neg_ℤ (pos (suc b * d))) in
      let m : d ≤ suc b * d = rw suc-mul (omega arith) in
      absurd (omega arith)

-- ---- Nearest, of every fraction

module _ (d : ℕ) (some : 0 < d) where
  pub nearest-is : (n : ℤ) → Nearest n d (nearest n d)
  unfolding nearest
  nearest-is (pos a) = is-nearest a d some
  nearest-is (negsuc a) = opposite (is-nearest (suc a) d some)

  pub nearest-only : (n q : ℤ) → Nearest n d q → q ≡ nearest n d
  unfolding nearest
  nearest-only (pos a) q h = only a d some q h
  nearest-only (negsuc a) q h = sym (neg_ℤ-neg_ℤ q) ∙ ap neg_ℤ (only (suc a) d some (neg_ℤ q) (opposite h))

  -- the sign is kept
  pub nearest-opposite : (n : ℤ) → nearest (neg_ℤ n) d ≡ neg_ℤ (nearest n d)
  nearest-opposite n = sym (nearest-only (neg_ℤ n) (neg_ℤ (nearest n d)) (opposite (nearest-is n)))

  -- a fraction that is a whole number is that number
  pub nearest-whole : (q : ℤ) → nearest (q *ℤ pos d) d ≡ q
  nearest-whole q =
      let e : nat_abs (q *ℤ pos d -ℤ q *ℤ pos d) ≡ 0 = ap nat_abs (+ℤ_invr (q *ℤ pos d)) in
      sym (nearest-only (q *ℤ pos d) q (record { near = omega arith; away = λ h. absurd (omega arith) }))

  -- around zero: less than a half is 0, and nothing else is
  from_zero : (n : ℤ) → nat_abs (n -ℤ pos 0 *ℤ pos d) ≡ nat_abs n
  from_zero n = rw (zero-mul, +ℤ_idr)

  pub nearest_zero : (n : ℤ) → 2 * nat_abs n < d → nearest n d ≡ pos 0
  nearest_zero n h =
      let e = from_zero n in
      sym (nearest-only n (pos 0) (record { near = omega arith; away = λ k. absurd (omega arith) }))

  pub nearest-not-zero : (n : ℤ) → nearest n d ≡ pos 0 → 2 * nat_abs n < d
  nearest-not-zero n h =
      let e = from_zero n in
      let z : Nearest n d (pos 0) = subst (Nearest n d) h (nearest-is n) in
      let m : 2 * nat_abs (n -ℤ pos 0 *ℤ pos d) ≤ d = z.near in
      by_cases (dec_lt (2 * nat_abs n) d) (λ k. k) (λ k. let w : nat_abs n < 0 * d = z.away (omega arith) in absurd (omega (arith, zero-mul d)))
