-- What follows for readings, whatever the division gives: what a scaling value is taken apart into; what a value is that the division gave; and what it is to divide operands.
use Rattle.std.specs.Prelude.{◌≡◌, Bool, ◌&&◌, ℕ, ◌+◌, ◌*◌, ◌≤◌, leb, ℤ, pos, negsuc, nat_abs, Result, Ok, Err, ⊤}
use Rattle.std.proofs.Math.Path.{refl}
use Rattle.std.proofs.Common.{sym, ◌∙◌, arith}
use Rattle.std.proofs.Math.Logic.{by_cases}
use Rattle.std.proofs.Math.Bool.{true, false}
use Rattle.std.proofs.Math.Decide.{dec_lt}
use Rattle.std.specs.Int.Signed.{le_z}
use borrow.Author.Tests.{lt-leb, le-leb, leb-true}
use Rattle.formats.specs.Bytes.{impossible}
use Rattle.refusals.specs.Stages.{require, or_else}
use Rattle.refusals.specs.Ranges.{first_misfit}
use Rattle.refusals.proofs.RangeLaws.{passed-fit}
use Rattle.refusals.specs.declared.Quantity.TheVariants.{Raw, Exponent}
use Rattle.refusals.specs.declared.Refusal.TheVariants.{OutOfRange}
use Rattle.calibration.specs.declared.Scaled.{Scaled}
use Rattle.calibration.specs.Reading.{numbers, exponent_of, fraction_of, InRange, Answer, value, absent, refused, read_where, operands}
use Rattle.refusals.specs.declared.Refusal.{Refusal}

-- ---- A scaling value

pub taken-apart : (e f : ℕ) → f ≤ 2047 → (exponent_of (2048 * e + f) ≡ e) × (fraction_of (2048 * e + f) ≡ f)
taken-apart e f h = omega arith

pub put-together : (number : ℕ) → 2048 * exponent_of number + fraction_of number ≡ number
put-together number = omega arith

-- it is from 0 to 65535 exactly where its E is to 31; its F is to 2047
pub same-range : (number : ℕ) → leb number 65535 ≡ leb (exponent_of number) 31
same-range number =
    by_cases
    (dec_lt 65535 number)
    (λ h. lt-leb number 65535 h ∙ sym (lt-leb (exponent_of number) 31 (omega arith)))
    (λ h. le-leb number 65535 (omega arith) ∙ sym (le-leb (exponent_of number) 31 (omega arith)))

-- ---- The ranges

within : (raw : ℤ) → (le_z (negsuc 32767) raw && le_z raw (pos 65535)) ≡ true → nat_abs raw ≤ 65535
within (pos n) h = leb-true n 65535 h
within (negsuc n) h = go (leb n 32767) refl h
  where
    go : (t : Bool) → leb n 32767 ≡ t → (t && true) ≡ true → nat_abs (negsuc n) ≤ 65535
    go true l k = let b = leb-true n 32767 l in omega arith
    go false l k = impossible (cc)

pub passed-in-range : (raw : ℤ) (e f : ℕ) → first_misfit (numbers raw e f) ≡ Ok tt → InRange raw e f
unfolding numbers
passed-in-range raw e f h =
    let fit = passed-fit (numbers raw e f) h in
    record { size = within raw fit.0; exponent = leb-true e 31 fit.1.0; fraction = leb-true f 2047 fit.1.1.0 }

-- ---- Whatever the division gives

-- what is refused before anything is divided
pub refuses : {A : Type 0} (t : Bool) (x y : A) → read_where (or_else (require t (OutOfRange Raw)) (Err (OutOfRange Exponent))) x ≡ read_where (or_else (require t (OutOfRange Raw)) (Err (OutOfRange Exponent))) y
unfolding read_where or_else require
refuses true x y = refl
refuses false x y = refl

module _ {A : Type 0} (divided : (raw : ℤ) (e f : ℕ) → A) where
  -- ---- A value that is read is the division's, of numbers in their ranges

  pub record Divides (raw : ℤ) (e f : ℕ) (x : A) : Type 0 where
    pub is : x ≡ divided raw e f
    pub in-range : InRange raw e f

  -- ---- To read a place is to divide its operands, where there are any

  unfoldable pub divide : Answer Scaled → Answer A
  divide (value scaled) = value (divided scaled.raw scaled.exponent scaled.fraction)
  divide absent = absent
  divide (refused refusal) = refused refusal

  pub divided-where : (j : Result ⊤ Refusal) (raw : ℤ) (e f : ℕ) → divide (read_where j (operands raw e f)) ≡ read_where j (divided raw e f)
  unfolding divide read_where
  divided-where (Ok _) raw e f = refl
  divided-where (Err refusal) raw e f = refl
