-- `values::put_from` meets its contract. The invariant: what is left to lay makes of these bytes what all of it makes of those at the start.
use mathlib.Core.List.{◌++◌}
use Prim.Native.Nat.{◌-◌, ◌+◌}
use native.Mathlib.Nat.{sub-zero}
use native.Mathlib.Omega.{arith}
use Rattle.formats.specs.Laid.{Owed, owed_all, owed-next, owed_none, owed-room, room-first}
use Rattle.channels.specs.Channel.{width_of}
use Rattle.points.specs.Points.{channels}
use Rattle.orders.specs.Orders.{size}
use Rattle.values.specs.Parts.{point_bytes, points_bytes}
use Rattle.values.proofs.Lent.{NextPoint, next-point, next-bytes, last-bytes}
use Rattle.values.proofs.put_from.Goals as goal
use Rattle.values.proofs.put_from.Goals.{After-put_point-at, At-loop, In-loop, Start}

pub loop-init : goal.loop-init
loop-init c = (simp sub-zero c.requires.4, simp sub-zero (owed_all _ _ _))

-- the next point's numbers are among the values, and its bytes come next
module _ (c : In-loop) where
  abbrev start : Start
  start = (goal.at.In-loop c).Start

  next : NextPoint start.args.values.now start.args.stride (size start.args.stored.now) start.args.step (start.args.count - (c.loop.counter + 1)) c.loop.from
  next = next-point _ _ _ _ start.args.count c.loop.counter _ c.loop-test.true start.requires.3 c.loop.invariant.0

  owed : Owed
      start.args.out.now
      start.args.start
      (points_bytes (width_of start.args.format) start.args.stride (channels start.args.stored.now) start.args.values.now start.args.step start.args.count 0)
      c.loop.out
      c.loop.at
      (point_bytes (width_of start.args.format) start.args.stride (channels start.args.stored.now) start.args.values.now c.loop.from
      ++ points_bytes (width_of start.args.format) start.args.stride (channels start.args.stored.now) start.args.values.now start.args.step (start.args.count - (c.loop.counter + 1)) (c.loop.from + start.args.step))
  owed = rw (next-bytes (width_of start.args.format) start.args.stride (channels start.args.stored.now) start.args.values.now start.args.step start.args.count c.loop.counter c.loop.from c.loop-test.true) at c.loop.invariant.1

pub put_point-at-requires : goal.put_point-at-requires
put_point-at-requires c =
    let l = (goal.at.put_point-at-requires c).In-loop in
    let s = (goal.at.In-loop l).Start in
    (s.requires.0, s.requires.1, (next l).inside, room-first _ _ (owed-room (owed l) s.requires.5))

pub overflow_add-from : goal.overflow_add-from
overflow_add-from c = let h = (next (goal.at.overflow_add-from c).In-loop).there in record { fits = omega arith }

pub loop-preserved : goal.loop-preserved
loop-preserved c =
    let p = (goal.at.loop-preserved c).After-put_point-at in
    let k = (goal.at.After-put_point-at p).In-loop in
    ((next k).rest, owed-next (owed k) p.put_point-at.ensures)

pub shape_of-out : goal.shape_of-out
shape_of-out c = c.loop.invariant.1.kept

pub returns : goal.returns
returns c =
    let l = (goal.at.returns c).At-loop in
    let a = l.args in
    owed_none (rw (last-bytes (width_of a.format) a.stride (channels a.stored.now) a.values.now a.step a.count l.loop.counter l.loop.from c.loop-test.false) at l.loop.invariant.1)
