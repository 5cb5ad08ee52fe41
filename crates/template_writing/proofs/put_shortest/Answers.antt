-- `templates::put_shortest` meets its contract: the digits of one to three bytes, by cases.
use mathlib.Core.Path.{◌≡◌, refl}
use Prim.Native.Nat.{◌+◌, ◌≤◌}
use native.Mathlib.Omega.{arith}
use lib.ListN.{length, length-set}
use Rattle.formats.specs.Put.{puts}
use Rattle.templates.specs.EncodedLaws.{one_byte, two_bytes, three-bytes}
use Rattle.template_writing.proofs.Laying.{shortest-one, shortest-two, shortest-three, room-bytes}
use Rattle.template_writing.proofs.put_shortest.Goals as goal
use Rattle.template_writing.proofs.put_shortest.Goals.{Else-number-lt65536, Then-number-lt256, Then-number-lt65536}

-- the room, by the tests
room-one : (c : Then-number-lt256) → c.args.at + 1 ≤ length c.args.out.now
room-one c = room-bytes _ (one_byte _ c.if-number-lt256.true) c.requires

room-two : (c : Then-number-lt65536) → c.args.at + 2 ≤ length c.args.out.now
room-two c = room-bytes _ (two_bytes _ c.if-number-lt256.false c.if-number-lt65536.true) c.requires

room-three : (c : Else-number-lt65536) → c.args.at + 3 ≤ length c.args.out.now
room-three c = room-bytes _ (three-bytes _ c.if-number-lt65536.false) c.requires

pub bounds-out-at : goal.bounds-out-at
bounds-out-at c = omega (arith, room-one (goal.at.bounds-out-at c).Then-number-lt256)

pub returns-then-number-lt256 : goal.returns-then-number-lt256
unfolding puts
returns-then-number-lt256 c = rw (shortest-one _ c.if-number-lt256.true, c.low.ensures) (record { place = refl; bytes = refl })

pub bounds-out-at-then-number-lt65536 : goal.bounds-out-at-then-number-lt65536
bounds-out-at-then-number-lt65536 c = omega (arith, room-two (goal.at.bounds-out-at-then-number-lt65536 c).Then-number-lt65536)

pub bounds-out-at-then-number-lt65536-2 : goal.bounds-out-at-then-number-lt65536-2
bounds-out-at-then-number-lt65536-2 c = simp length-set (omega (arith, room-two (goal.at.bounds-out-at-then-number-lt65536-2 c).Then-number-lt65536))

pub returns-then-number-lt65536 : goal.returns-then-number-lt65536
unfolding puts
returns-then-number-lt65536 c =
    let b = (goal.at.returns-then-number-lt65536 c).Then-number-lt65536 in
    rw (shortest-two _ b.if-number-lt256.false b.if-number-lt65536.true, c.low-then-number-lt65536.ensures, c.low-then-number-lt65536-2.ensures) (record { place = refl; bytes = refl })

pub bounds-out-at-2 : goal.bounds-out-at-2
bounds-out-at-2 c = omega (arith, room-three (goal.at.bounds-out-at-2 c).Else-number-lt65536)

pub bounds-out-at-3 : goal.bounds-out-at-3
bounds-out-at-3 c = simp length-set (omega (arith, room-three (goal.at.bounds-out-at-3 c).Else-number-lt65536))

pub bounds-out-at-4 : goal.bounds-out-at-4
bounds-out-at-4 c = simp length-set (omega (arith, room-three (goal.at.bounds-out-at-4 c).Else-number-lt65536))

pub returns : goal.returns
unfolding puts
returns c =
    let b = (goal.at.returns c).Else-number-lt65536 in
    let at = b.args.at in
    let e : at + 1 + 1 ≡ at + 2 = omega arith in
    rw (shortest-three _ b.if-number-lt65536.false, c.low-2.ensures, c.low-3.ensures, c.low-4.ensures) (record { place = refl; bytes = rw e })
