-- `points::jump` meets its contract: the points have room, or they are cut.
use mathlib.Core.Path.{sym, ◌∙◌}
use Prim.Native.Nat.{◌*◌, ◌-◌, ◌≤◌}
use native.Mathlib.Omega.{arith}
use borrow.Author.Tests.{leb-true, leb-false}
use lib.ListN.{length}
use Rattle.formats.specs.Jump.{ends_there, ends-short}
use borrow.Author.Rules.{rules}
use Rattle.points.proofs.jump.Goals as goal
use Rattle.points.proofs.jump.Goals.{Else-not-is_within}

pub returns-then-not-is_within : goal.returns-then-not-is_within
returns-then-not-is_within c =
    let a = c.args in
    let h = leb-false (a.count * a.width) (length a.bytes.now - a.start) (sym c.is_within.ensures ∙ c.if-not-is_within.true) in
    sym (ends-short _ _ _ (omega arith))

-- the points are there
within : (c : Else-not-is_within) → c.args.count * c.args.width ≤ length c.args.bytes.now - c.args.start
within c = leb-true _ _ (sym c.is_within.ensures ∙ c.if-not-is_within.false)

pub overflow_mul-result : goal.overflow_mul-result
overflow_mul-result c = let h = within c in search rules

pub overflow_add-result : goal.overflow_add-result
overflow_add-result c = let h = within c in search rules

pub returns : goal.returns
returns c = sym (ends_there _ _ _ (omega (arith, within c)))
