-- `refusals::named` meets its contract: the arms are the table, number by number.
use mathlib.Core.Path.{◌≡◌, sym}
use mathlib.Core.Logic.{by_cases}
use Prim.Native.Nat.{ℕ, ◌-◌, ◌≤◌, ◌<◌}
use native.Mathlib.Decide.{dec_lt}
use native.Mathlib.Omega.{arith}
use lib.ListN.{get_or-eq_default}
use Rattle.refusals.specs.Table.{at_byte, named}
use Rattle.refusals.specs.declared.Refusal.TheVariants.{Identifier, LeftOver}
use Rattle.refusals.proofs.named.Goals as goal

pub returns-in-3 : goal.returns-in-3
unfolding named
returns-in-3 c = let z : c.args.number ≡ 3 = omega arith in rw z

pub returns-in-4 : goal.returns-in-4
unfolding named
returns-in-4 c = let z : c.args.number ≡ 4 = omega arith in rw z

pub returns-in-5 : goal.returns-in-5
unfolding named
returns-in-5 c = let z : c.args.number ≡ 5 = omega arith in rw z

pub returns-in-6 : goal.returns-in-6
unfolding named
returns-in-6 c = let z : c.args.number ≡ 6 = omega arith in rw z

pub returns-in-7 : goal.returns-in-7
unfolding named
returns-in-7 c = let z : c.args.number ≡ 7 = omega arith in rw z

pub returns-in-8 : goal.returns-in-8
unfolding named
returns-in-8 c = let z : c.args.number ≡ 8 = omega arith in rw z

-- before the table and behind it
least : (n place : ℕ) → n < 3 → named n place ≡ Identifier place
unfolding named
least n place h = let z : n - 2 ≡ 0 = omega arith in rw z

past : (n place : ℕ) → 9 ≤ n → named n place ≡ LeftOver place
unfolding named
past n place h =
    by_cases
    (dec_lt 9 n)
    (λ q. get_or-eq_default (at_byte place) (LeftOver place) {n = n - 2} (omega arith))
    (λ q. let z : n ≡ 9 = omega arith in rw z)

pub returns-in-0-to-2 : goal.returns-in-0-to-2
returns-in-0-to-2 c = sym (least c.args.number _ (omega arith))

pub returns-in_default : goal.returns-in_default
returns-in_default c = sym (past c.args.number _ (omega arith))
