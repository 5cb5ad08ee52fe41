-- `numerals::digits_in` says the number of its digits: those that were read continue with those that are left, and as many digits as were read say a number below that power of ten.
use Prim.Native.Nat.{ℕ, ◌≤◌, ◌<◌, ◌*◌, zero, suc}
use mathlib.Core.Path.{◌≡◌}
use lib.ListN.{length, drop}
use Rattle.numerals.specs.Decimal.{continued}
use Rattle.numerals.proofs.digits_in.Given as goal

-- a power of ten
unfoldable pub ten : ℕ → ℕ
ten zero = 1
ten (suc n) = 10 * ten n

abbrev pub invariant-loop-byte : goal.invariant-loop-byte
invariant-loop-byte l = (l.byte-index ≤ length l.word) × (length l.word ≤ 18) × (l.magnitude < ten l.byte-index) × (continued 0 l.word ≡ continued l.magnitude (drop l.byte-index l.word))
