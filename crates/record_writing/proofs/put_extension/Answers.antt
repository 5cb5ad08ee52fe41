-- `record_writing::put_extension` meets its contract: a length of two bytes, and the bytes behind it.
use mathlib.Core.Path.{◌≡◌}
use mathlib.Core.Bool.{true}
use mathlib.Core.List.{◌++◌}
use Prim.Native.Nat.{◌<◌}
use native.Mathlib.Omega.{arith}
use lib.ListN.{length}
use Rattle.formats.specs.Laid.{Room, laid_none, laid_more, room-first, room-rest, within-laid}
use Rattle.formats.specs.Number.{digits}
use Rattle.stored_numbers.specs.NumberLaws.{number-laid}
use Rattle.records.specs.Record.{encode_extended}
use Rattle.record_writing.proofs.Laying.{wanted_room, wanted-laid}
use Rattle.record_writing.proofs.put_extension.Goals as goal
use Rattle.record_writing.proofs.put_extension.Goals.{After-put, Else-not-wanted, Start}

-- where they are wanted
module _ (c : Else-not-wanted) where
  abbrev start : Start
  start = (goal.at.Else-not-wanted c).Start

  wanted : start.args.wanted ≡ true
  wanted = c.if-not-wanted.false

  small : length start.args.extended.now < 65536
  small = start.requires.0 (rw wanted tt)

  room : Room start.args.out.now start.args.at (digits 2 (length start.args.extended.now) ++ start.args.extended.now)
  room = wanted_room start.args.extended.now start.args.wanted wanted start.requires.1

pub returns-then-not-wanted : goal.returns-then-not-wanted
unfolding encode_extended
returns-then-not-wanted c = let s = (goal.at.returns-then-not-wanted c).Start in rw (c.if-not-wanted.true) (laid_none _ _)

pub overflow_cast-extended : goal.overflow_cast-extended
overflow_cast-extended c = record { fits = omega (arith, small (goal.at.overflow_cast-extended c).Else-not-wanted) }

pub returns : goal.returns
returns c =
    let q = (goal.at.returns c).After-put in
    let w = (goal.at.After-put q).Else-not-wanted in
    let f = number-laid 2 _ _ _ (room-first _ _ (room w)) q.put_number-next.ensures in
    let l = within-laid _ (room-rest f (room w)) q.put.ensures in
    wanted-laid (start w).args.extended.now (start w).args.wanted (wanted w) (laid_more f l)
