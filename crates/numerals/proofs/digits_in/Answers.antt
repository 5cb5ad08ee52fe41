-- `numerals::digits_in` says the number of its digits: those that were read continue with those that are left, and as many digits as were read say a number below that power of ten.
use mathlib.Core.Path.{◌∙◌}
use mathlib.Core.List.{List, []}
use lib.ListN.{drop_of_length-le}
use borrow.Author.Tests.{ltb-false}
use Prim.Native.Nat.{ℕ, ◌≤◌, ◌<◌, ◌-◌, ◌*◌, ◌+◌, zero, suc}
use mathlib.Core.Path.{◌≡◌, refl, sym}
use lib.ListN.{length, get_or, drop}
use lib.Seq.{drop-cons}
use native.Mathlib.Numerals.{add-one}
use native.Mathlib.Omega.{arith}
use Rattle.numerals.specs.Decimal.{continued}
use Rattle.numerals.proofs.digits_in.Invariants.{ten}
use Rattle.numerals.proofs.digits_in.Goals as goal

-- one digit more is read
turned : (word : List ℕ) (i number : ℕ) → i < length word → continued number (drop i word) ≡ continued (number * 10 + (get_or word i 0 - 48)) (drop (i + 1) word)
unfolding continued
turned word i number h = rw (add-one, drop-cons word i 0) refl

ended : (word : List ℕ) (i number : ℕ) → length word ≤ i → continued number (drop i word) ≡ number
unfolding continued
ended word i number h = let e : drop i word ≡ [] = drop_of_length-le word h in rw e refl

more : (n k : ℕ) → ten n ≤ ten (k + n)
unfolding ten
more n zero = let e : 0 + n ≡ n = omega arith in rw e (omega arith)
more n (suc k) = let e : suc k + n ≡ suc (k + n) = omega arith in rw e (omega (arith, more n k))

most : (n : ℕ) → n ≤ 18 → ten n ≤ 1000000000000000000
unfolding ten
most n h = let e : (18 - n) + n ≡ 18 = omega arith in rw e at (more n (18 - n))

pub loop-byte-init : goal.loop-byte-init
unfolding ten
loop-byte-init c = (omega arith, omega (arith, ltb-false), omega arith, refl)

-- the byte is a digit
digit : (c : goal.After-row_known-in-loop-byte-1) → get_or c.args.word.now c.loop-byte.byte-index 0 ≤ 57
digit c = c.if-not-is_ascii_digit.ensures.cases.1

pub overflow_mul-magnitude : goal.overflow_mul-magnitude
overflow_mul-magnitude c = record { fits = omega (arith, most c.loop-byte.byte-index (omega arith)) }

pub overflow_add-magnitude : goal.overflow_add-magnitude
overflow_add-magnitude c = record { fits = omega (arith, digit c, most c.loop-byte.byte-index (omega arith)) }

pub loop-byte-preserved : goal.loop-byte-preserved
unfolding ten
loop-byte-preserved c = (omega arith, omega arith, rw (add-one c.loop-byte.byte-index) (omega (arith, digit c)), c.loop-byte.invariant.3 ∙ turned c.args.word.now c.loop-byte.byte-index c.loop-byte.magnitude (omega arith))

pub returns : goal.returns
returns c = (omega (arith, most c.loop-byte.byte-index (omega arith)), sym (c.loop-byte.invariant.3 ∙ ended c.args.word.now c.loop-byte.byte-index c.loop-byte.magnitude (omega arith)))
