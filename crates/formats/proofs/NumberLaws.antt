-- Numbers of n bytes: where the string ends too soon, and what they are written as.
use Rattle.std.specs.Prelude.{◌≡◌, refl, List, ℕ, zero, suc, ◌+◌, ◌-◌, ◌*◌, ◌/◌, ◌%◌, ◌^◌, ◌<◌, length, drop}
use Rattle.std.proofs.Math.Path.{ap}
use Rattle.std.proofs.Common.{pow-suc}
use native.Mathlib.Omega.{arith}
use Rattle.std.proofs.Math.ListN.{length-drop}
use Rattle.formats.specs.Reader.{short, after, read_at, any}
use Rattle.formats.specs.Writes.{Writes, writes-done, writes_one, writes_as}
use Rattle.formats.proofs.WritesLaws.{writes-bind, writes-map}
use Rattle.formats.specs.Number.{number, digits, number_short}

module _ (n : ℕ) (s : List ℕ) (at : ℕ) where
  pub at-number-short : length s - at < n → read_at (number n) s at ≡ short
  unfolding read_at after
  at-number-short h = ap (after at) (number_short n (drop at s) (simp length-drop (omega arith)))

pub writes-number : (n : ℕ) → Writes (number n) (digits n) (λ v. v < 256 ^ n)
unfolding number digits
writes-number zero = writes_as (writes-done 0) (λ v e. (omega arith, refl)) (λ v h. omega arith)
writes-number (suc n) =
    writes-bind
    (writes-number n)
    (λ a h. writes-map (writes_one any) (λ b. a * 256 + b) (λ u. u % 256) (λ b q. omega arith))
    (λ a u h q. let e : a ≡ u / 256 = omega arith in (rw (pow-suc 256 n) (omega arith), rw e))
    (λ u h. (u / 256, omega (arith, rw (pow-suc 256 n) at h), ((omega arith, refl), omega arith)))
