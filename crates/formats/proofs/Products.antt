-- Whether n parts of a size have room, without a product that could be too large.
use mathlib.Core.Path.{◌≡◌, sym, ◌∙◌}
use mathlib.Core.Bool.{true}
use mathlib.Core.Logic.{by_cases}
use Prim.Native.Nat.{ℕ, ◌*◌, ◌/◌, ◌<◌}
use native.Mathlib.Decide.{dec_lt}
use native.Mathlib.Nat.{le-div_iff_mul-le}
use native.Mathlib.Omega.{arith}
use borrow.Author.Tests.{le-leb, lt-leb}
use lib.Dec.{leb}

pub no_size : (n k m : ℕ) → k ≡ 0 → true ≡ leb (n * k) m
no_size n k m e = sym (le-leb (n * k) m (rw e (omega arith)))

pub by-quotient : (n k m : ℕ) → 0 < k → leb n (m / k) ≡ leb (n * k) m
by-quotient n k m h =
    by_cases
    (dec_lt (m / k) n)
    (λ q. lt-leb n (m / k) q ∙ sym (by_cases (dec_lt m (n * k)) (λ r. lt-leb (n * k) m r) (λ r. absurd (omega (arith, (le-div_iff_mul-le {k = k} {x = n} {y = m} h).1 (omega arith))))))
    (λ q. le-leb n (m / k) (omega arith) ∙ sym (le-leb (n * k) m ((le-div_iff_mul-le {k = k} {x = n} {y = m} h).0 (omega arith))))
