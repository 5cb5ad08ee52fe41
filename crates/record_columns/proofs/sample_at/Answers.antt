-- `record_columns::sample_at` meets its contract: each test of the code decides what the reader of a number answers.
use mathlib.Core.Path.{◌≡◌}
use Prim.Native.Nat.{◌+◌, ◌≤◌}
use native.Mathlib.Omega.{arith}
use mir.Syntax.{w32}
use mir.ValLaws.{to_z-of_z}
use lib.ListN.{length}
use Rattle.formats.specs.Number as reader
use Rattle.formats.specs.Reader.{ok, read_at}
use Rattle.stored_numbers.specs.NumberLaws.{part-read}
use Rattle.points.specs.SampleLaws.{switch-size, wide-size, wide_ok}
use Rattle.record_columns.proofs.Filling.{number_is, state-read}
use borrow.Author.Rules.{rules}
use Rattle.record_columns.proofs.sample_at.Goals as goal
use Rattle.record_columns.proofs.sample_at.Goals.{After-is_signed, After-number_at-number, After-width, Else-channel-eq-S, Start, Then-channel-eq-S}

-- S has a byte
there : (c : Then-channel-eq-S) → c.args.at + 1 ≤ length c.args.bytes.now
there c = omega (arith, c.requires, switch-size 2 c.args.channel c.if-channel-eq-S.true)

pub bounds-bytes-at : goal.bounds-bytes-at
bounds-bytes-at c = omega (arith, there (goal.at.bounds-bytes-at c).Then-channel-eq-S)

-- any other channel two
module _ (c : After-width) where
  abbrev start : Start
  start = (goal.at.After-width c).Start

  two : c.width.result ≡ 2
  two = c.width.ensures.0

  room : start.args.at + 2 ≤ length start.args.bytes.now
  room = omega (arith, start.requires, wide-size 2 start.args.channel c.if-channel-eq-S.false)

pub slice_bounds-number_at-end : goal.slice_bounds-number_at-end
slice_bounds-number_at-end c = omega (arith, room c, two c)

-- the number that stands there
number : (n : After-number_at-number) → let a = (start (goal.at.After-number_at-number n).After-width).args in read_at (reader.number 2) a.bytes.now a.at ≡ ok n.number_at-number.result (a.at + 2)
number n = let z = (goal.at.After-number_at-number n).After-width in part-read 2 _ _ (room z) z.width.result (two z) n.number_at-number.ensures

pub returns-then-channel-eq-S : goal.returns-then-channel-eq-S
returns-then-channel-eq-S c =
    let t = (goal.at.returns-then-channel-eq-S c).Then-channel-eq-S in
    rw (to_z-of_z w32 c.state.result (search rules), c.state.ensures) (state-read _ _ _ t.if-channel-eq-S.true (omega (arith, there t)))

pub returns-else-channel-eq-S : goal.returns-else-channel-eq-S
returns-else-channel-eq-S c =
    let g = (goal.at.returns-else-channel-eq-S c).After-is_signed in
    let n = (goal.at.After-is_signed g).After-number_at-number in
    let z = (goal.at.After-number_at-number n).Else-channel-eq-S in
    rw (to_z-of_z w32 c.value_of.result (search rules), c.value_of.ensures, g.is_signed.ensures)
    (number_is _ _ _ (wide_ok 2 _ _ _ z.if-channel-eq-S.false (number n)))
