-- `record_columns::read_columns` meets its contract: the layout of the record decides, then the amount, and its points are filled in.
use Rattle.std.specs.Prelude.{Ok, Err}
use borrow.Author.Rules.{rules}
use mathlib.Core.Bool.{Bool, true}
use mathlib.Core.List.{List}
use mathlib.Core.Path.{◌≡◌, sym, ◌∙◌}
use Prim.Native.Nat.{◌*◌, ◌≤◌}
use native.Mathlib.Omega.{arith}
use borrow.Author.Tests.{eqb-true}
use lib.Dec.{eqb}
use lib.ListN.{length}
use Rattle.formats.specs.Reader.{read_at}
use Rattle.refusals.specs.Table.{refusal_of}
use Rattle.orders.specs.Orders.{size}
use Rattle.record_fronts.specs.Front as meant
use Rattle.record_fronts.specs.Fronted.{fronted}
use Rattle.record_layouts.specs.Layout.{layout_at}
use Rattle.record_layouts.specs.LayoutLaws.{front-layout, unfronted-layout}
use Rattle.record_columns.proofs.Lying.{no_record, left_over, points-within, other-amount, columns-filled}
use Rattle.record_columns.proofs.read_columns.Goals as goal
use Rattle.record_columns.proofs.read_columns.Goals.{After-is_amount, Else-not-is_amount, In_ok-layout, Start}

pub returns-in_err-front : goal.returns-in_err-front
returns-in_err-front c =
    let gone : c.from_residual.result ≡ Err (refusal_of c.in_err-front.field-0.0) = search rules in
    rw gone (no_record _ _ (unfronted-layout _ _ (sym c.front_at.ensures ∙ c.in_err-front.was)))

pub returns-in_err-layout : goal.returns-in_err-layout
returns-in_err-layout c =
    let gone : c.from_residual-in_err-layout.result ≡ Err (refusal_of c.in_err-layout.field-0.0) = search rules in
    rw gone (no_record _ _ (front-layout _ _ (sym c.front_at.ensures ∙ c.in_ok-front.was) c.layout_behind.ensures ∙ c.in_err-layout.was))

-- the front and the layout are those of the bytes
module _ (b : In_ok-layout) where
  abbrev start : Start
  start = (goal.at.In_ok-layout b).Start

  front : fronted (read_at meant.front start.args.bytes.now 0) ≡ Ok b.in_ok-front.front
  front = sym b.front_at.ensures ∙ b.in_ok-front.was

  laid : layout_at start.args.bytes.now 0 ≡ Ok b.in_ok-layout.layout
  laid = front-layout _ _ front b.layout_behind.ensures ∙ b.in_ok-layout.was

pub returns-then-layout-bytes : goal.returns-then-layout-bytes
returns-then-layout-bytes c = let b = (goal.at.returns-then-layout-bytes c).In_ok-layout in left_over _ _ (front b) (laid b) c.if-layout-bytes.true

-- the record is the whole slice, and the amount is asked for
module _ (m : After-is_amount) where
  abbrev lies : In_ok-layout
  lies = (goal.at.After-is_amount m).In_ok-layout

  abbrev flags : List Bool
  flags = m.in_ok-front.front.stored

  all : length (start lies).args.bytes.now ≤ m.in_ok-layout.layout.end
  all = omega arith

  amount : eqb (length (start lies).args.values.now) (m.in_ok-layout.layout.count * size flags) ≡ m.is_amount.result
  amount = rw (← m.size.ensures.0) (sym m.is_amount.ensures)

pub returns-then-not-is_amount : goal.returns-then-not-is_amount
returns-then-not-is_amount c =
    let m = (goal.at.returns-then-not-is_amount c).After-is_amount in
    other-amount _ _ (front (lies m)) (laid (lies m)) (all m) (amount m ∙ c.if-not-is_amount.true)

-- it is right
module _ (c : Else-not-is_amount) where
  right : let m = (goal.at.Else-not-is_amount c).After-is_amount in eqb (length (start (lies m)).args.values.now) (m.in_ok-layout.layout.count * size (flags m)) ≡ true
  right = amount (goal.at.Else-not-is_amount c).After-is_amount ∙ c.if-not-is_amount.false

pub fill-requires : goal.fill-requires
fill-requires c =
    let m = (goal.at.fill-requires c).After-is_amount in
    (points-within _ (start (lies m)).args.values.now (front (lies m)) (laid (lies m)), eqb-true _ _ (right (goal.at.fill-requires c).Else-not-is_amount))

pub returns : goal.returns
returns c =
    let e = (goal.at.returns c).Else-not-is_amount in
    let m = (goal.at.returns c).After-is_amount in
    columns-filled _ _ (front (lies m)) (laid (lies m)) (all m) (right e) _ c.fill.ensures
