-- What is promised of a double that is answered holds, and for every F no other double could be answered; it is a number, so that its bits may be asked for.
use Rattle.std.specs.Prelude.{◌≡◌, refl, not, ℕ, ◌+◌, ◌*◌, ◌^◌, ◌<◌, T, ℤ, pos, ◌*ℤ◌, Float, Result, Ok, Err}
use Rattle.std.proofs.Common.{sym, ◌∙◌, lt_irrefl, arith}
use Rattle.std.specs.Float.{nan, inf, fin}
use Rattle.std.specs.Float.Ieee.{is_nan, to_bits}
use Rattle.calibration.specs.Reading.{InRange}
use Rattle.doubles.specs.Double.{minus, exponent}
use Rattle.doubles.specs.Nearest.{Nearest}
use Rattle.doubles.specs.Quotient.{bits_of, negative, quotient, Quotient}
use Rattle.doubles.specs.Reading.{Exactly, IsNumber}
use Rattle.doubles.proofs.ValueLaws.{is-sized}
use Rattle.doubles.proofs.OperandLaws.{dividend-is, divisor-is}
use Rattle.doubles.proofs.QuotientLaws.{held, worth-at, exact-at, zero-at}
use Rattle.doubles.proofs.NearestLaws.{nearest-at, nearest-only}
use Rattle.refusals.specs.declared.Refusal.{Refusal}

pub quotient_is : (raw : ℤ) (e f : ℕ) → InRange raw e f → Quotient raw e f (quotient raw e f)
unfolding quotient
quotient_is raw e f h =
    let s = h.size in
    record {
      dividend = dividend-is raw (omega arith);
      divisor = divisor-is e f h.exponent h.fraction;
      divided = refl;
      nearest = nearest-at raw e f h;
      sign = (is-sized (held raw e f h) (worth-at raw e f h)).0;
      exact = exact-at raw e f h;
      plus-zero = zero-at raw e f h;
    }

-- by whole numbers alone: no other bits with raw's sign are those of the double nearest to the exact fraction
pub only : (raw : ℤ) (e f : ℕ) (x : Float) (bits : ℕ) → Quotient raw e f x → Nearest bits (raw *ℤ pos (2 ^ 27)) ((2048 + f) * 2 ^ e) → minus bits ≡ negative raw → bits ≡ bits_of x
only raw e f x bits q n s = nearest-only n q.nearest (s ∙ sym q.sign)

-- ---- Its bits may be asked for

pub exactly-number : (raw : ℤ) (e f : ℕ) (r : Result Float Refusal) → Exactly raw e f r → IsNumber r
exactly-number raw e f (Ok x) q = q.nearest.number
exactly-number raw e f (Err refusal) q = tt

pub no_nan : (x : Float) → exponent (bits_of x) < 2047 → T (not (is_nan x))
unfolding to_bits is_nan
no_nan nan h = absurd (lt_irrefl 2047 h)
no_nan (inf s) h = tt
no_nan (fin s m e) h = tt
