-- `texts::digit_count` meets its contract. The invariant: the limit is the first number with as many digits as the next count, and counting goes on from there.
use mathlib.Core.Path.{◌≡◌}
use Prim.Native.Nat.{◌-◌, ◌^◌}
use Rattle.texts.specs.Digits.{count_from, digit_count}
use Rattle.texts.proofs.digit_count.Given as goal

abbrev pub invariant-loop-count : goal.invariant-loop-count
invariant-loop-count l = (l.limit ≡ 10 ^ (l.count - 1)) × (digit_count l.number ≡ count_from (20 - l.count) l.count l.number)
