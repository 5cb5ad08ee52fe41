-- `record_writing::put_record` meets its contract: the front, the points and the extended data are laid one behind the other.
use mathlib.Core.Bool.{cond}
use mathlib.Core.List.{List, ◌++◌, flat_map}
use mathlib.Core.Option.{some, none}
use Prim.Native.Nat.{ℕ}
use Rattle.formats.specs.Laid.{Room, Laid, laid_more, room-first, room-rest}
use Rattle.points.specs.Points.{encode_point}
use Rattle.orders.specs.Orders.{size, points_of}
use Rattle.values.proofs.ValueLaws.{put-laid}
use Rattle.records.specs.Record.{encode_extended}
use Rattle.record_writing.specs.Parts.{front_bytes, record_bytes}
use Rattle.record_writing.proofs.put_record.Goals as goal
use Rattle.record_writing.proofs.put_record.Goals.{After-put-at, After-put_extension, After-put_front-at, Start}

-- there is room for each part
module _ (s : Start) where
  abbrev row : List ℕ
  row = flat_map (encode_point 2 s.args.stored) (points_of s.args.order s.args.count (size s.args.stored) s.args.values.now)

  abbrev rest : List ℕ
  rest = row ++ encode_extended (cond s.args.wanted (some s.args.extended.now) none)

  room : Room s.args.out.now 0 (front_bytes s.args.described.now s.args.wanted s.args.count ++ rest)
  unfolding record_bytes
  room = s.requires.1

abbrev start : After-put_front-at → Start
start c = (goal.at.After-put_front-at c).Start

behind : (c : After-put_front-at) → Room c.put_front-at.new.out c.put_front-at.result (rest (start c))
behind c = room-rest c.put_front-at.ensures (room (start c))

pub put_front-at-requires : goal.put_front-at-requires
put_front-at-requires c = let s = (goal.at.put_front-at-requires c).Start in (s.requires.0.counted, room-first _ _ (room s))

-- the points lie behind the front
module _ (c : After-put-at) where
  abbrev fronted : After-put_front-at
  fronted = (goal.at.After-put-at c).After-put_front-at

  abbrev s : Start
  s = start fronted

  points : Laid fronted.put_front-at.new.out fronted.put_front-at.result (row s) c.put-at.new.out c.put-at.result
  points = put-laid 2 s.args.stored s.args.order s.args.count s.args.values.now s.requires.0.fitting (room-first _ _ (behind fronted)) c.put-at.ensures

pub put_extension-requires : goal.put_extension-requires
put_extension-requires c =
    let p = (goal.at.put_extension-requires c).After-put-at in
    ((s p).requires.0.small, room-rest (points p) (behind (fronted p)))

pub returns : goal.returns
unfolding record_bytes
returns c =
    let e = (goal.at.returns c).After-put_extension in
    let p = (goal.at.After-put_extension e).After-put-at in
    laid_more (fronted p).put_front-at.ensures (laid_more (points p) e.put_extension.ensures)
