-- `record_columns::fill_channel` meets its contract. The invariant: the numbers of the first i points are filled in, and every other is as it was.
use mathlib.Core.Path.{◌≡◌, sym, subst}
use mathlib.Core.List.{List}
use Prim.Native.Nat.{ℕ, ◌+◌, ◌*◌, ◌≤◌, ◌<◌}
use native.Mathlib.Omega.{arith}
use mir.Syntax.{w32}
use mir.Val.{to_z, of_z}
use mir.ValLaws.{to_z-of_z}
use lib.IntN.{ℤ}
use lib.ListN.{length, set}
use Rattle.points.specs.Points.{sample_size}
use Rattle.record_columns.specs.Parts.{NumberAt, ChannelFilled}
use Rattle.record_columns.proofs.Filling.{none_filled, next-filled}
use borrow.Author.Rules.{rules}
use Rattle.record_columns.proofs.fill_channel.Goals as goal
use Rattle.record_columns.proofs.fill_channel.Goals.{At-loop, In-loop, Start}

-- the first n numbers are filled in
abbrev FilledTo : Start → ℕ → List ℤ → Type 0
FilledTo s n values = ChannelFilled s.args.bytes.now s.args.channel s.args.start s.args.width s.args.from s.args.step n s.args.values.now values

pub loop-init : goal.loop-init
loop-init c = (omega arith, omega arith, none_filled _ _ _ _ _ _ _)

-- a turn: its number is there among the bytes, and has its place in the buffer
module _ (c : In-loop) where
  abbrev turn : At-loop
  turn = (goal.at.In-loop c).At-loop

  abbrev start : Start
  start = (goal.at.At-loop turn).Start

  more : turn.loop.counter < start.args.count
  more = omega arith

  bytes : turn.loop.at + sample_size 2 start.args.channel ≤ length start.args.bytes.now
  bytes = omega (arith, turn.loop.invariant.0, start.requires.3 turn.loop.counter more)

  place : turn.loop.index < length start.args.values.now
  place = omega (arith, turn.loop.invariant.1, start.requires.4 turn.loop.counter more)

  still : turn.loop.index < length turn.loop.values
  still = omega (arith, place, turn.loop.invariant.2.many)

pub sample_at-requires : goal.sample_at-requires
sample_at-requires c = bytes c

pub offset_bounds-values-index : goal.offset_bounds-values-index
offset_bounds-values-index c = let s = start (goal.at.offset_bounds-values-index c).In-loop in record { fits = omega (arith, place (goal.at.offset_bounds-values-index c).In-loop, s.well_formed.1) }

pub bounds-values-index : goal.bounds-values-index
bounds-values-index c = still (goal.at.bounds-values-index c).In-loop

pub overflow_add-at : goal.overflow_add-at
overflow_add-at c = let s = start (goal.at.overflow_add-at c).In-loop in record { fits = omega (arith, bytes (goal.at.overflow_add-at c).In-loop, s.requires.0, s.well_formed.0.1) }

pub overflow_add-index : goal.overflow_add-index
overflow_add-index c = let s = start (goal.at.overflow_add-index c).In-loop in record { fits = omega (arith, place (goal.at.overflow_add-index c).In-loop, s.requires.2, s.well_formed.1) }

pub loop-preserved : goal.loop-preserved
loop-preserved c =
    let b = (goal.at.loop-preserved c).In-loop in
    let t = turn b in
    let s = start b in
    let z : t.loop.index ≡ s.args.from + t.loop.counter * s.args.step = t.loop.invariant.1 in
    let v : to_z w32 (of_z w32 c.sample_at.result) ≡ c.sample_at.result = to_z-of_z w32 c.sample_at.result (search rules) in (
      omega (arith, t.loop.invariant.0),
      omega (arith, z),
      rw v
          (subst
          (λ at. FilledTo s (t.loop.counter + 1) (set t.loop.values at c.sample_at.result))
          (sym z)
          (next-filled _ _ _ _ _ _ _ t.loop.counter t.loop.values t.loop.invariant.2 c.sample_at.result s.requires.1 (omega (arith, still b, z)) (subst (λ at. NumberAt s.args.bytes.now s.args.channel at c.sample_at.result) t.loop.invariant.0 c.sample_at.ensures))),
    )

pub returns : goal.returns
returns c = let z : c.loop.counter ≡ c.args.count = omega arith in subst (λ n. FilledTo (goal.at.returns c).Start n c.loop.values) z c.loop.invariant.2
