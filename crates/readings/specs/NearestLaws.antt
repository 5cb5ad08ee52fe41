-- What is nearest to a fraction, over whole numbers: at most half of d off, a half going away from zero; and what the other sign makes of it.
use Rattle.std.specs.Prelude.{◌≡◌, refl, Bool, true, false, ℕ, zero, suc, ◌+◌, ◌-◌, ◌*◌, ◌≤◌, ◌<◌, ℤ, pos, negsuc, nat_abs, ◌-ℤ◌, ◌*ℤ◌, ltb}
use Rattle.std.proofs.Math.Path.{sym, ap}
use Rattle.std.proofs.Common.{◌∙◌, zero-mul, arith, ltb-true, ltb-false, lt-ltb, le-ltb}
use Rattle.std.proofs.Math.IntN.{neg_ℤ, sub_ℕ, neg_ℤ-+ℤ, neg_ℤ-neg_ℤ}

-- q is nearest to n / d: twice the distance of n from q · d is at most d, and where it is d itself, q · d lies further from zero than n
pub record Nearest (n : ℤ) (d : ℕ) (q : ℤ) : Type 0 where
  pub near : 2 * nat_abs (n -ℤ q *ℤ pos d) ≤ d
  pub away : 2 * nat_abs (n -ℤ q *ℤ pos d) ≡ d → nat_abs n < nat_abs (q *ℤ pos d)

-- ---- Sizes and signs

-- the size of a difference
pub apart : (a b : ℕ) → nat_abs (pos a -ℤ pos b) ≡ (a - b) + (b - a)
apart a zero = omega arith
apart a (suc b) = go (ltb a (suc b)) refl
  where
    go : (t : Bool) → ltb a (suc b) ≡ t → nat_abs (sub_ℕ a (suc b)) ≡ (a - suc b) + (suc b - a)
    go true e = let h = ltb-true a (suc b) e in rw (lt-ltb a (suc b) h) (omega arith)
    go false e = let h = ltb-false a (suc b) e in rw (le-ltb a (suc b) h) (omega arith)

size-opposite : (z : ℤ) → nat_abs (neg_ℤ z) ≡ nat_abs z
size-opposite (pos zero) = refl
size-opposite (pos (suc n)) = refl
size-opposite (negsuc n) = refl

pub times-opposite : (q : ℤ) (d : ℕ) → neg_ℤ q *ℤ pos d ≡ neg_ℤ (q *ℤ pos d)
times-opposite (pos zero) d = rw zero-mul
times-opposite (pos (suc n)) d = refl
times-opposite (negsuc n) d = sym (neg_ℤ-neg_ℤ (pos (suc n * d)))

apart-opposite : (n q : ℤ) (d : ℕ) → nat_abs (neg_ℤ n -ℤ neg_ℤ q *ℤ pos d) ≡ nat_abs (n -ℤ q *ℤ pos d)
apart-opposite n q d = ap (λ z. nat_abs (neg_ℤ n -ℤ z)) (times-opposite q d) ∙ ap nat_abs (sym (neg_ℤ-+ℤ n (neg_ℤ (q *ℤ pos d)))) ∙ size-opposite (n -ℤ q *ℤ pos d)

-- what is nearest to a fraction, with the other sign is nearest to its opposite
pub opposite : {n q : ℤ} {d : ℕ} → Nearest n d q → Nearest (neg_ℤ n) d (neg_ℤ q)
opposite {n} {q} {d} h = record {
  near = rw (apart-opposite n q d) h.near;
  away = λ e. rw (size-opposite n, times-opposite q d, size-opposite (q *ℤ pos d)) (h.away (ap (λ (x : ℕ). 2 * x) (sym (apart-opposite n q d)) ∙ e));
}
