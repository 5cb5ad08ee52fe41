-- `description_writing::put_where_room` meets its contract: the two tests together are the definition's, and none of its sums is too large.
use Rattle.std.specs.Prelude.{Ok}
use mathlib.Core.Path.{◌≡◌, sym, ap₂, ◌∙◌}
use mathlib.Core.Bool.{true, false}
use Prim.Native.Nat.{ℕ, ◌+◌, ◌-◌, ◌≤◌, ◌<◌}
use native.Mathlib.Omega.{arith}
use borrow.Author.Tests.{leb-true, leb-false, le-leb, lt-leb}
use lib.ListN.{length}
use Rattle.formats.specs.Lent.{writing}
use Rattle.channels.specs.Channel.{width_of}
use Rattle.descriptions.specs.Description.{encode_description}
use Rattle.description_writing.specs.Write.{put_room}
use Rattle.description_writing.proofs.put_where_room.Goals as goal
use Rattle.description_writing.proofs.put_where_room.Goals.{After-has_room, After-put_description-end, Else-not-has_room, Else-out-start, Start}

abbrev needed : Start → ℕ
needed s = length (encode_description (width_of s.args.format) s.args.description)

pub returns-then-out-start : goal.returns-then-out-start
unfolding put_room
returns-then-out-start c =
    let s = (goal.at.returns-then-out-start c).Start in
    rw (lt-leb (s.args.start + needed s) (length s.args.out.now) (omega arith))

-- what the call answered
module _ (c : After-has_room) where
  abbrev start : Start
  start = (goal.at.After-has_room c).Start

  abbrev behind : ℕ
  behind = length start.args.out.now - start.args.start

  crowded : c.has_room.result ≡ false → length start.args.out.now < start.args.start + needed start
  crowded e = omega (arith, leb-false (needed start) behind (sym c.has_room.ensures ∙ e))

  room : c.has_room.result ≡ true → start.args.start + needed start ≤ length start.args.out.now
  room e = omega (arith, leb-true (needed start) behind (sym c.has_room.ensures ∙ e))

pub returns-then-not-has_room : goal.returns-then-not-has_room
unfolding put_room
returns-then-not-has_room c = rw (lt-leb _ _ (crowded (goal.at.returns-then-not-has_room c).After-has_room (c.if-not-has_room.true)))

pub put_description-end-requires : goal.put_description-end-requires
put_description-end-requires c =
    let e = (goal.at.put_description-end-requires c).Else-not-has_room in
    ((start (goal.at.Else-not-has_room e).After-has_room).requires, record { enough = room (goal.at.Else-not-has_room e).After-has_room (e.if-not-has_room.false) })

pub returns : goal.returns
unfolding put_room
returns c =
    let p = (goal.at.returns c).After-put_description-end in
    rw (le-leb _ _ (room (goal.at.After-put_description-end p).After-has_room p.if-not-has_room.false))
    (ap₂ (λ n t. writing (Ok n) t) p.put_description-end.ensures.place p.put_description-end.ensures.bytes)
