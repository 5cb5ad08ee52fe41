-- `points::width_from` meets its contract. The invariant: the whole width is what was gathered and what the channels left have.
use mathlib.Core.Path.{◌≡◌}
use Prim.Native.Nat.{◌<◌}
use native.Mathlib.Omega.{arith}
use borrow.Author.Rules.{rules}
use lib.ListN.{length}
use Rattle.channels.specs.Channel.{width_of}
use Rattle.points.proofs.Samples.{width-out, width-in, width-none}
use Rattle.points.proofs.width_from.Goals as goal
use Rattle.points.proofs.width_from.Goals.{At-loop-channel, Start, then-stored-channel, else-stored-channel}

sixteen : (s : Start) → length s.args.stored ≡ 16
sixteen s = search rules

pub loop-channel-init : goal.loop-channel-init
loop-channel-init c = (omega arith, omega arith, omega arith)

pub overflow_add-w : goal.overflow_add-w
overflow_add-w c = omega arith

pub loop-channel-preserved : goal.loop-channel-preserved
loop-channel-preserved c =
    let l = (goal.at.loop-channel-preserved c).At-loop-channel in
    let stored = l.args.stored in
    let n = width_of l.args.format in
    let h : l.loop-channel.channel < length stored = omega (arith, sixteen (goal.at.At-loop-channel l).Start) in
    let q = l.loop-channel.invariant.2 in
    elim c.if-stored-channel.branch [
      | then-stored-channel w ↦
          let e = width-in n stored l.loop-channel.channel h w.if-stored-channel.true in
          let z = w.sample_size-w.ensures in
          rw w.w-is (omega (arith, z.1), omega arith, omega (arith, q, e, z.0))
      | else-stored-channel w ↦ rw w.w-is (omega arith, omega arith, omega (arith, q, width-out n stored l.loop-channel.channel h w.if-stored-channel.false))
    ]

pub returns : goal.returns
returns c =
    let l = (goal.at.returns c).At-loop-channel in
    (omega (arith, l.loop-channel.invariant.2, width-none (width_of l.args.format) l.args.stored l.loop-channel.channel (omega (arith, sixteen (goal.at.At-loop-channel l).Start))), omega arith)
