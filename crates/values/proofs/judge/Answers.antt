-- `values::judge` meets its contract: the amount, and then each number.
use mathlib.Core.Bool.{true}
use mathlib.Core.Path.{◌≡◌, sym, ◌∙◌}
use Prim.Native.Nat.{◌*◌}
use lib.Dec.{eqb}
use lib.ListN.{length}
use Rattle.channels.specs.Channel.{width_of}
use Rattle.orders.specs.Orders.{size}
use Rattle.values.proofs.Lent.{Ready, ready, other-amount, same-amount, no-values}
use borrow.Author.Rules.{rules}
use Rattle.values.proofs.judge.Goals as goal
use Rattle.values.proofs.judge.Goals.{After-is_amount, After-size-k, After-stride-stride, Else-not-is_amount, Start}

-- whether the amount is right
amount : (c : After-is_amount) → let a = c.args in eqb (length a.values.now) (a.count * size a.stored) ≡ c.is_amount.result
amount c = rw (← c.size-k.ensures.0) (sym c.is_amount.ensures)

pub returns-then-not-is_amount : goal.returns-then-not-is_amount
returns-then-not-is_amount c = sym (other-amount _ _ _ _ _ (amount (goal.at.returns-then-not-is_amount c).After-is_amount ∙ c.if-not-is_amount.true))

pub returns-then-k-eq0 : goal.returns-then-k-eq0
returns-then-k-eq0 c =
    let e = (goal.at.returns-then-k-eq0 c).Else-not-is_amount in
    let n = (goal.at.Else-not-is_amount e).After-is_amount in
    sym (no-values _ _ _ _ _ (amount n ∙ e.if-not-is_amount.false) (sym n.size-k.ensures.0 ∙ c.if-k-eq0.true))

-- the numbers are among the values
module _ (c : After-stride-stride) where
  abbrev start : Start
  start = (goal.at.After-stride-stride c).Start

  abbrev measured : After-size-k
  measured = (goal.at.After-stride-stride c).After-size-k

  same : eqb (length start.args.values.now) (start.args.count * size start.args.stored) ≡ true
  same = let e = (goal.at.After-stride-stride c).Else-not-is_amount in amount (goal.at.Else-not-is_amount e).After-is_amount ∙ e.if-not-is_amount.false

  taken : Ready start.args.values.now (size start.args.stored) start.args.count c.step-step.result c.stride-stride.result
  taken = ready _ start.args.order _ _ _ same measured.size-k.ensures.0 c.if-k-eq0.false measured.size-k.ensures.1 c.step-step.ensures c.stride-stride.ensures

pub judge_from-requires : goal.judge_from-requires
judge_from-requires c =
    let t = taken (goal.at.judge_from-requires c).After-stride-stride in
    (search rules, t.stride, t.step, t.some, t.inside)

pub returns : goal.returns
returns c =
    let d = (goal.at.returns c).After-stride-stride in
    let a = (start d).args in
    c.judge_from.ensures
    ∙ rw (d.stride-stride.ensures, d.step-step.ensures, (measured d).size-k.ensures.0) (sym (same-amount (width_of a.format) a.stored a.order a.count a.values.now (same d)))
