-- `record_writing::put_front` meets its contract: identifier, version, description and opening are laid one behind the other, and there is room for each.
use mathlib.Core.List.{List, ◌++◌}
use Prim.Native.Nat.{ℕ}
use Rattle.formats.specs.Laid.{Room, Laid, laid_more, room-first, room-rest, within-laid}
use Rattle.records.specs.Record.{identifier_bytes, version_bytes}
use Rattle.record_writing.specs.Parts.{opening_bytes, front_bytes}
use Rattle.record_writing.proofs.put_front.Goals as goal
use Rattle.record_writing.proofs.put_front.Goals.{After-put-at, After-put-at-2, After-put-at-3, After-put_opening, Start}

-- what each needs room for
module _ (s : Start) where
  abbrev behind : List ℕ
  behind = s.args.described.now ++ opening_bytes s.args.wanted s.args.count

  room : Room s.args.out.now 0 (identifier_bytes ++ (version_bytes ++ behind))
  unfolding front_bytes
  room = s.requires.1

module _ (c : After-put-at) where
  abbrev start : Start
  start = (goal.at.After-put-at c).Start

  first-laid : Laid start.args.out.now 0 identifier_bytes c.put-at.new.out c.put-at.result
  first-laid = within-laid _ (room-first _ _ (room start)) c.put-at.ensures

  first-room : Room c.put-at.new.out c.put-at.result (version_bytes ++ behind start)
  first-room = room-rest first-laid (room start)

module _ (c : After-put-at-2) where
  abbrev first : After-put-at
  first = (goal.at.After-put-at-2 c).After-put-at

  second-laid : Laid first.put-at.new.out first.put-at.result version_bytes c.put-at-2.new.out c.put-at-2.result
  second-laid = within-laid _ (room-first _ _ (first-room first)) c.put-at-2.ensures

  second-room : Room c.put-at-2.new.out c.put-at-2.result (behind (start first))
  second-room = room-rest second-laid (first-room first)

module _ (c : After-put-at-3) where
  abbrev second : After-put-at-2
  second = (goal.at.After-put-at-3 c).After-put-at-2

  third-laid : Laid second.put-at-2.new.out second.put-at-2.result (start (first second)).args.described.now c.put-at-3.new.out c.put-at-3.result
  third-laid = within-laid _ (room-first _ _ (second-room second)) c.put-at-3.ensures

  third-room : Room c.put-at-3.new.out c.put-at-3.result (opening_bytes (start (first second)).args.wanted (start (first second)).args.count)
  third-room = room-rest third-laid (second-room second)

pub put_opening-requires : goal.put_opening-requires
put_opening-requires c = let p = (goal.at.put_opening-requires c).After-put-at-3 in ((start (first (second p))).requires.0, third-room p)

pub returns : goal.returns
unfolding front_bytes
returns c =
    let o = (goal.at.returns c).After-put_opening in
    let p = (goal.at.After-put_opening o).After-put-at-3 in
    laid_more (first-laid (first (second p))) (laid_more (second-laid (second p)) (laid_more (third-laid p) o.put_opening.ensures))
