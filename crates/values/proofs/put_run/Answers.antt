-- `values::put_run` meets its contract. The invariant: what is left to lay makes of these bytes what all of it makes of those at the start.
use mathlib.Core.Path.{◌≡◌}
use mathlib.Core.Bool.{Bool, true, false}
use mathlib.Core.List.{List, ◌++◌}
use Prim.Native.Nat.{ℕ, ◌<◌, ◌+◌}
use native.Mathlib.Omega.{arith}
use borrow.Author.Rules.{rules}
use lib.IntN.{ℤ, pos}
use lib.ListN.{length, get_or}
use mir.Syntax.{w32}
use mir.Val.{SFits, to_z, of_z}
use mir.ValLaws.{to_z-of_z}
use Rattle.formats.specs.Laid.{Owed, owed_all, owed-next, owed-room, room-first}
use Rattle.channels.specs.Channel.{width_of}
use Rattle.values.specs.Values.{sample_bytes}
use Rattle.values.specs.Parts.{bytes_left}
use Rattle.values.proofs.Lent.{pass-bytes, pass-inside, Taken, take-inside, take-bytes}
use Rattle.values.proofs.put_run.Goals as goal
use Rattle.values.proofs.put_run.Goals.{At-loop-channel, In-loop-channel, Start, then-stored-channel, else-stored-channel}

sixteen : (s : Start) → length s.args.stored.now ≡ 16
sixteen s = s.requires.0

pub loop-channel-init : goal.loop-channel-init
loop-channel-init c = (c.requires.2, owed_all _ _ _)

-- the next number is there, and its bytes come next
module _ (turn : In-loop-channel) where
  abbrev w : ℕ
  w = width_of turn.args.format

  abbrev d : ℕ
  d = turn.args.stride

  abbrev stored : List Bool
  stored = turn.args.stored.now

  abbrev values : List ℤ
  values = turn.args.values.now

  abbrev channel : ℕ
  channel = turn.loop-channel.channel

  abbrev index : ℕ
  index = turn.loop-channel.index

  within : channel < length stored
  within = omega (arith, sixteen (goal.at.In-loop-channel turn).Start, turn.requires.5)

  taken : get_or stored channel false ≡ true → Taken values d stored channel index within turn.loop-channel.invariant.0
  taken e = take-inside values d stored channel index within turn.loop-channel.invariant.0 e

  owed : get_or stored channel false ≡ true → Owed
      turn.args.out.now
      turn.args.start
      (bytes_left w d stored values turn.args.first turn.args.from)
      turn.loop-channel.out
      turn.loop-channel.at
      (sample_bytes w channel (get_or values index (pos 0)) ++ bytes_left w d stored values (channel + 1) (index + d))
  owed e = rw (take-bytes w d stored values channel index within e) at turn.loop-channel.invariant.1

-- the value as the machine has it
read : (t : In-loop-channel) → SFits w32 (get_or (values t) (index t) (pos 0)) → to_z w32 (of_z w32 (get_or (values t) (index t) (pos 0))) ≡ get_or (values t) (index t) (pos 0)
read t q = to_z-of_z w32 (get_or (values t) (index t) (pos 0)) q

pub offset_bounds-values-index : goal.offset_bounds-values-index
offset_bounds-values-index c = let h = (taken (goal.at.offset_bounds-values-index c).In-loop-channel c.if-stored-channel.true).there in search rules

pub bounds-values-index : goal.bounds-values-index
bounds-values-index c = (taken (goal.at.bounds-values-index c).In-loop-channel c.if-stored-channel.true).there

pub put_sample-at-requires : goal.put_sample-at-requires
put_sample-at-requires c =
    let t = (goal.at.put_sample-at-requires c).In-loop-channel in
    rw (read t (search rules)) (room-first _ _ (owed-room (owed t c.if-stored-channel.true) t.requires.3))

pub overflow_add-index : goal.overflow_add-index
overflow_add-index c = let h = (taken (goal.at.overflow_add-index c).In-loop-channel c.if-stored-channel.true).there in record { fits = omega arith }

pub loop-channel-preserved : goal.loop-channel-preserved
loop-channel-preserved c =
    let l = (goal.at.loop-channel-preserved c).In-loop-channel in
    let a = l.args in
    elim c.if-stored-channel.branch [
      | then-stored-channel x ↦
          let e = x.if-stored-channel.true in
          let q : SFits w32 (get_or (values l) (index l) (pos 0)) = search rules in
          let laid = rw (read l q) at x.put_sample-at.ensures in
          rw (x.out-is, x.at-is, x.index-is) ((taken l e).rest, owed-next (owed l e) laid)
      | else-stored-channel x ↦
          let h : l.loop-channel.channel < length a.stored.now = omega (arith, sixteen (goal.at.In-loop-channel l).Start, l.requires.5) in
          let e = x.if-stored-channel.false in
          rw (x.out-is, x.at-is, x.index-is) (
            pass-inside a.values.now a.stride a.stored.now l.loop-channel.channel l.loop-channel.index h l.loop-channel.invariant.0 e,
            rw (pass-bytes (width_of a.format) a.stride a.stored.now a.values.now l.loop-channel.channel l.loop-channel.index h e) at l.loop-channel.invariant.1,
          )
    ]

pub shape_of-out : goal.shape_of-out
shape_of-out c = c.loop-channel.invariant.1.kept

pub returns : goal.returns
returns c =
    let l = (goal.at.returns c).At-loop-channel in
    let e : l.loop-channel.channel ≡ l.args.last = omega (arith, l.requires.4, l.loop-channel.auto.channel-end, c.loop-channel-test.false) in
    (rw e at l.loop-channel.invariant.0, rw e at l.loop-channel.invariant.1)
