-- `texts::digit_count` meets its contract. The invariant: the limit is the first number with as many digits as the next count, and counting goes on from there.
use mathlib.Core.Path.{◌≡◌, refl, sym, ◌∙◌}
use Prim.Native.Nat.{ℕ, zero, suc, ◌+◌, ◌-◌, ◌*◌, ◌^◌, ◌≤◌, ◌<◌}
use native.Mathlib.Nat.{pow-le-pow_right, pow-suc}
use native.Mathlib.Numerals.{add-one}
use native.Mathlib.Omega.{arith}
use Rattle.texts.specs.Digits.{count_from}
use Rattle.texts.specs.JoiningLaws.{count_next, count-here}
use Rattle.texts.proofs.digit_count.Goals as goal

-- nineteen digits fit into 64 bits
fits : (count limit : ℕ) → count < 20 → limit ≡ 10 ^ (count - 1) → limit ≤ 10 ^ 18
fits count limit h e = rw e (pow-le-pow_right {n = 10} (omega arith) {i = count - 1} {j = 18} (omega arith))

tenfold : (count limit : ℕ) → 0 < count → limit ≡ 10 ^ (count - 1) → limit * 10 ≡ 10 ^ count
tenfold zero limit h e = absurd (omega arith)
tenfold (suc count) limit h e = let z : suc count - 1 ≡ count = omega arith in rw (rw z at e, pow-suc) refl

pub overflow_mul-limit : goal.overflow_mul-limit
overflow_mul-limit c = record { fits = omega (arith, fits c.loop-count.count _ (omega arith) c.loop-count.invariant.0) }

pub returns-then-number-limit : goal.returns-then-number-limit
returns-then-number-limit c =
    let l = c.loop-count in
    let ten = tenfold l.count l.limit (omega arith) l.invariant.0 in
    let below = rw ten at c.if-number-limit.true in
    (sym (l.invariant.1 ∙ count-here l.count _ (omega arith) below), omega arith, omega arith)

pub loop-count-preserved : goal.loop-count-preserved
loop-count-preserved c =
    let l = c.loop-count in
    let ten = tenfold l.count l.limit (omega arith) l.invariant.0 in
    let z : l.count + 1 - 1 ≡ l.count = omega arith in
    let above = rw ten at c.if-number-limit.false in
    (rw z ten, rw add-one (l.invariant.1 ∙ count_next l.count _ (omega arith) above))

pub returns : goal.returns
unfolding count_from
returns c =
    let z : c.loop-count.count ≡ 20 = omega arith in
    (sym (rw z at c.loop-count.invariant.1), omega arith, omega arith)
