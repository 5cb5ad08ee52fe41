-- `description_writing::size` meets its contract. The invariant: what was counted and what is left are the whole.
use mathlib.Core.Path.{◌≡◌, ap}
use Prim.Native.Nat.{◌+◌, ◌≤◌}
use native.Mathlib.Omega.{arith}
use lib.ListN.{length, length-append}
use Rattle.formats.specs.Number.{length_digits}
use Rattle.channels.specs.Channel.{width_of}
use Rattle.channels.specs.declared.Format.{Format}
use Rattle.channels.specs.declared.Format.TheVariants.{Full, Compact}
use Rattle.descriptions.specs.Description.{encode_description}
use Rattle.descriptions.specs.SizeLaws.{description-size}
use Rattle.description_writing.proofs.Laying.{left, left-next, left-none}
use Rattle.description_writing.proofs.size.Goals as goal
use Rattle.description_writing.proofs.size.Goals.{After-channel_size-total, At-loop-d, Start}

sixteen : (s : Start) → length s.args.description.channels ≡ 16
sixteen s = s.well_formed.0.1.1.0.1.0.1

width_small : (format : Format) → width_of format ≤ 2
width_small Full = omega arith
width_small Compact = omega arith

pub loop-d-init : goal.loop-d-init
unfolding encode_description left
loop-d-init c = simp (length-append, length_digits)

-- this channel is counted
counted : (c : After-channel_size-total)
    → length (encode_description (width_of c.args.format) c.args.description)
    ≡ c.loop-d.total
    + c.channel_size-total.result
    + length (left (width_of c.args.format) c.args.description.channels (c.loop-d.d-index + 1))
counted c =
    let l = (goal.at.After-channel_size-total c).At-loop-d in
    let a = l.args in
    let next = left-next (width_of a.format) a.description.channels (sixteen (goal.at.At-loop-d l).Start) l.loop-d.d-index c.loop-d-test.true in
    omega (arith, l.loop-d.invariant, simp length-append at (ap length next), c.channel_size-total.ensures l.loop-d.d-index)

pub overflow_add-total : goal.overflow_add-total
overflow_add-total c =
    let a = c.args in
    omega (arith, counted c, description-size (width_of a.format) a.description, width_small a.format)

pub loop-d-preserved : goal.loop-d-preserved
loop-d-preserved c = counted c

pub returns : goal.returns
returns c =
    let l = (goal.at.returns c).At-loop-d in
    let a = l.args in
    omega (arith, l.loop-d.invariant, ap length (left-none (width_of a.format) a.description.channels l.loop-d.d-index c.loop-d-test.false))
