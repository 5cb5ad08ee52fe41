-- `values::put` meets its contract: the amount, the room, and then each point.
use mathlib.Core.Bool.{true}
use mathlib.Core.Path.{◌≡◌, sym, ap, ap₂, ◌∙◌}
use Prim.Native.Nat.{◌+◌, ◌-◌, ◌*◌, ◌≤◌}
use native.Mathlib.Omega.{arith}
use borrow.Author.Tests.{leb-true, leb-false}
use lib.Dec.{eqb, leb}
use lib.ListN.{length}
use Rattle.channels.specs.Channel.{width_of}
use Rattle.points.specs.Points.{channels, width}
use Rattle.orders.specs.Orders.{size, step, stride}
use Rattle.values.specs.Parts.{points_bytes}
use Rattle.values.proofs.Lent.{Ready, ready, put-amount, put-room, put-nothing, all_room, put_all}
use borrow.Author.Rules.{rules}
use Rattle.values.proofs.put.Goals as goal
use Rattle.values.proofs.put.Goals.{After-is_amount, After-is_within, After-put_from, After-size-k, After-stride-stride, After-width-width, Else-not-is_amount, Else-not-is_within, Start}

-- whether the amount is right
amount : (c : After-is_amount) → let a = c.args in eqb (length a.values.now) (a.count * size a.stored) ≡ c.is_amount.result
amount c = rw (← c.size-k.ensures.0) (sym c.is_amount.ensures)

same : (c : Else-not-is_amount) → let a = c.args in eqb (length a.values.now) (a.count * size a.stored) ≡ true
same c = amount (goal.at.Else-not-is_amount c).After-is_amount ∙ c.if-not-is_amount.false

pub returns-then-not-is_amount : goal.returns-then-not-is_amount
returns-then-not-is_amount c = sym (put-amount _ _ _ _ _ _ _ (amount (goal.at.returns-then-not-is_amount c).After-is_amount ∙ c.if-not-is_amount.true))

pub returns-then-out-at : goal.returns-then-out-at
returns-then-out-at c = sym (put-room _ _ _ _ _ _ _ (same (goal.at.returns-then-out-at c).Else-not-is_amount) (omega arith))

-- whether there is room for all
wide : (c : After-width-width) → let a = c.args in c.width-width.result ≡ width (width_of a.format) a.stored
unfolding width channels
wide c = c.width-width.ensures.0

within : (c : After-is_within) → let a = c.args in
    leb (a.count * width (width_of a.format) a.stored) (length a.out.now - a.at) ≡ c.is_within.result
within c = rw (← wide (goal.at.After-is_within c).After-width-width) (sym c.is_within.ensures)

pub returns-then-not-is_within : goal.returns-then-not-is_within
returns-then-not-is_within c =
    let i = (goal.at.returns-then-not-is_within c).After-is_within in
    let e = (goal.at.After-is_within i).Else-not-is_amount in
    let a = e.args in
    let h = leb-false (a.count * width (width_of a.format) a.stored) (length a.out.now - a.at) (within i ∙ c.if-not-is_within.true) in
    sym (put-room _ _ _ _ _ _ _ (same e) (omega arith))

-- there is
module _ (c : Else-not-is_within) where
  abbrev start : Start
  start = (goal.at.Else-not-is_within c).Start

  room : start.args.at + start.args.count * width (width_of start.args.format) start.args.stored ≤ length start.args.out.now
  room =
      let h = leb-true (start.args.count * width (width_of start.args.format) start.args.stored) (length start.args.out.now - start.args.at) (within (goal.at.Else-not-is_within c).After-is_within ∙ c.if-not-is_within.false) in
      omega (arith, h, c.if-out-at.false)

pub returns-then-k-eq0 : goal.returns-then-k-eq0
returns-then-k-eq0 c =
    let e = (goal.at.returns-then-k-eq0 c).Else-not-is_within in
    let k = (goal.at.Else-not-is_within e).Else-not-is_amount in
    sym (put-nothing _ _ _ _ _ _ _ (same k) (room e) (sym k.size-k.ensures.0 ∙ c.if-k-eq0.true))

-- the numbers are among the values
module _ (c : After-stride-stride) where
  abbrev roomed : Else-not-is_within
  roomed = (goal.at.After-stride-stride c).Else-not-is_within

  abbrev fit : Else-not-is_amount
  fit = (goal.at.Else-not-is_within roomed).Else-not-is_amount

  abbrev measured : After-size-k
  measured = (goal.at.Else-not-is_amount fit).After-size-k

  taken : Ready (start roomed).args.values.now (size (start roomed).args.stored) (start roomed).args.count c.step-step.result c.stride-stride.result
  taken = ready _ (start roomed).args.order _ _ _ (same fit) measured.size-k.ensures.0 c.if-k-eq0.false measured.size-k.ensures.1 c.step-step.ensures c.stride-stride.ensures

  bytes : points_bytes (width_of (start roomed).args.format) c.stride-stride.result (channels (start roomed).args.stored) (start roomed).args.values.now c.step-step.result (start roomed).args.count 0
      ≡ points_bytes (width_of (start roomed).args.format) (stride (start roomed).args.order (start roomed).args.count) (channels (start roomed).args.stored) (start roomed).args.values.now (step (start roomed).args.order (size (start roomed).args.stored)) (start roomed).args.count 0
  bytes =
      ap₂ (λ d p. points_bytes (width_of (start roomed).args.format) d (channels (start roomed).args.stored) (start roomed).args.values.now p (start roomed).args.count 0)
      c.stride-stride.ensures
      (c.step-step.ensures ∙ ap (step (start roomed).args.order) measured.size-k.ensures.0)

sixteen : (s : Start) → length s.args.stored ≡ 16
sixteen s = search rules

pub put_from-requires : goal.put_from-requires
put_from-requires c =
    let d = (goal.at.put_from-requires c).After-stride-stride in
    let t = taken d in
    (sixteen (start (roomed d)), t.stride, t.step, t.some, t.inside, rw (bytes d) (all_room _ _ _ _ _ _ _ (same (fit d)) (room (roomed d))))

pub returns : goal.returns
returns c =
    let p = (goal.at.returns c).After-put_from in
    let d = (goal.at.After-put_from p).After-stride-stride in
    put_all _ _ _ _ _ _ _ (same (fit d)) (room (roomed d)) (rw (bytes d) at p.put_from.ensures)
