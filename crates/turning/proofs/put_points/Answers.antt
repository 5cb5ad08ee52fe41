-- `turning::put_points` meets its contract. The invariant: the ith point stands i widths behind the first, and the bytes of the points that are left are owed.
use mathlib.Core.Path.{◌≡◌}
use mathlib.Core.List.{List, ◌++◌}
use Prim.Native.Nat.{ℕ, ◌+◌}
use native.Mathlib.Omega.{arith}
use lib.IntN.{ℤ}
use lib.ListN.{drop}
use Rattle.formats.specs.Reader.{ok, read_at, times}
use Rattle.formats.specs.Laid.{Room, Owed, owed_all, owed-next, owed_none, owed-room, room-first}
use Rattle.points.specs.Points.{point, width}
use Rattle.values.specs.Values.{bytes_of}
use Rattle.turning.specs.Parts.{bytes_in}
use Rattle.turning.proofs.Putting.{next-bytes, all-length, all_room, no-points}
use Rattle.turning.proofs.Standing.{counted, ith-within}
use Rattle.turning.proofs.put_points.Goals as goal
use Rattle.turning.proofs.put_points.Goals.{After-places-places, At-loop, Start}

pub loop-init : goal.loop-init
loop-init c = (omega arith, (λ points end e. owed_all _ _ _))

-- what is known at each turn
module _ (t : At-loop) where
  abbrev start : Start
  start = (goal.at.At-loop t).Start

  wide : t.width-width.result ≡ width 2 start.args.stored
  wide = t.width-width.ensures.0

-- the next point's bytes come next
module _ (c : After-places-places) where
  abbrev turn : At-loop
  turn = (goal.at.After-places-places c).At-loop

  abbrev s : Start
  s = start turn

  owed : (points : List (List ℤ)) (end : ℕ) → read_at (times s.args.count (point 2 s.args.stored)) s.args.whole.now s.args.start ≡ ok points end
      → Owed
      s.args.out.now
      0
      (bytes_of 1 s.args.stored points)
      turn.loop.out
      turn.loop.to
      (bytes_in 0 c.places-places.result ++ bytes_of 1 s.args.stored (drop (turn.loop.counter + 1) points))
  owed points end e = rw (next-bytes _ _ _ _ points end s.requires.0 e turn.loop.counter c.loop-test.true _ _ c.places-places.ensures turn.loop.invariant.0) at (turn.loop.invariant.1 points end e)

  room : Room turn.loop.out turn.loop.to (bytes_in 0 c.places-places.result)
  room =
      let r = s.requires.2 in
      room-first _ _ (owed-room (owed r.0 r.1 r.2) (all_room _ _ _ _ _ _ s.requires.0 r.2 s.requires.1))

pub put_places-to-requires : goal.put_places-to-requires
put_places-to-requires c = room (goal.at.put_places-to-requires c).After-places-places

pub overflow_add-at : goal.overflow_add-at
overflow_add-at c =
    let t = (goal.at.overflow_add-at c).At-loop in
    record { fits = omega (arith, t.loop.invariant.0, wide t, ith-within _ _ _ _ _ _ (start t).requires.0 (start t).requires.2.2 t.loop.counter c.loop-test.true, (start t).well_formed.0.1) }

pub loop-preserved : goal.loop-preserved
loop-preserved c =
    let f = (goal.at.loop-preserved c).After-places-places in
    let t = (goal.at.loop-preserved c).At-loop in
    (omega (arith, t.loop.invariant.0, wide t), (λ points end e. owed-next (owed f points end e) c.put_places-to.ensures))

pub shape_of-out : goal.shape_of-out
shape_of-out c = let t = (goal.at.shape_of-out c).At-loop in (t.loop.invariant.1 _ _ (start t).requires.2.2).kept

pub returns : goal.returns
returns c points end e =
    let t = (goal.at.returns c).At-loop in
    let a = (start t).args in
    let laid = owed_none (rw (no-points a.stored points t.loop.counter (omega (arith, counted _ _ _ _ points end (start t).requires.0 e, c.loop-test.false))) at (t.loop.invariant.1 points end e)) in
    record { place = omega (arith, all-length _ _ _ _ points end (start t).requires.0 e); bytes = laid.bytes }
