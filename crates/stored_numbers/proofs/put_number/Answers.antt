-- `stored_numbers::put_number` meets its contract: the two tests together are the definition's, and then the digits of the two formats, by cases.
use mathlib.Core.Path.{◌≡◌, sym, ap, ◌∙◌}
use Prim.Native.Nat.{◌+◌, ◌≤◌}
use native.Mathlib.Omega.{arith}
use lib.ListN.{length, length-set}
use Rattle.formats.specs.Put.{puts}
use Rattle.formats.specs.Lent.{writing}
use Rattle.formats.specs.Number.{two_digits, one-digit}
use Rattle.channels.specs.Channel.{width_of}
use Rattle.stored_numbers.specs.Numbers.{put_number}
use Rattle.stored_numbers.specs.NumberLaws.{put-there, put-crowded}
use Rattle.channels.specs.declared.Format.{Format}
use Rattle.stored_numbers.proofs.put_number.Goals as goal
use Rattle.stored_numbers.proofs.put_number.Goals.{Else-out-width-2, In-Compact, In-Full, Start}

pub returns-then-out-width : goal.returns-then-out-width
returns-then-out-width c = sym (put-crowded _ _ _ _ (omega (arith, c.width-width.ensures.0)))

pub returns-then-out-width-2 : goal.returns-then-out-width-2
returns-then-out-width-2 c = sym (put-crowded _ _ _ _ (omega (arith, c.width-width.ensures.0)))

-- there is room, in the format that it is
module _ (c : Else-out-width-2) where
  abbrev start : Start
  start = (goal.at.Else-out-width-2 c).Start

  there : start.args.at + width_of start.args.format ≤ length start.args.out.now
  there = omega (arith, c.width-width.ensures.0)

  room : {f : Format} → start.args.format ≡ f → start.args.at + width_of f ≤ length start.args.out.now
  room e = omega (arith, there, ap width_of e)

pub bounds-out-at : goal.bounds-out-at
bounds-out-at c = let e = (goal.at.bounds-out-at c).In-Full in omega (arith, room (goal.at.In-Full e).Else-out-width-2 e.in-Full.is)

pub bounds-out-at-in-Full : goal.bounds-out-at-in-Full
bounds-out-at-in-Full c = let e = (goal.at.bounds-out-at-in-Full c).In-Full in simp length-set (omega (arith, room (goal.at.In-Full e).Else-out-width-2 e.in-Full.is))

pub bounds-out-at-in-Compact : goal.bounds-out-at-in-Compact
bounds-out-at-in-Compact c = let e = (goal.at.bounds-out-at-in-Compact c).In-Compact in omega (arith, room (goal.at.In-Compact e).Else-out-width-2 e.in-Compact.is)

pub returns-in-Full : goal.returns-in-Full
unfolding puts
returns-in-Full c =
    let e = (goal.at.returns-in-Full c).In-Full in
    let q = e.in-Full.is in
    let a = (start (goal.at.In-Full e).Else-out-width-2).args in
    rw (c.high.ensures, c.low.ensures)
    (sym
    (ap (λ f. put_number (width_of f) a.number a.out.now a.at) q
    ∙ put-there 2 _ _ a.number (room (goal.at.In-Full e).Else-out-width-2 q)
    ∙ ap (λ b. writing (a.at + 2) (puts a.out.now a.at b)) (two_digits a.number (omega arith))))

pub returns-in-Compact : goal.returns-in-Compact
unfolding puts
returns-in-Compact c =
    let e = (goal.at.returns-in-Compact c).In-Compact in
    let q = e.in-Compact.is in
    let a = (start (goal.at.In-Compact e).Else-out-width-2).args in
    rw c.low-in-Compact.ensures
    (sym
    (ap (λ f. put_number (width_of f) a.number a.out.now a.at) q
    ∙ put-there 1 _ _ a.number (room (goal.at.In-Compact e).Else-out-width-2 q)
    ∙ ap (λ b. writing (a.at + 1) (puts a.out.now a.at b)) (one-digit a.number)))
