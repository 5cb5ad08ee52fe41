-- `channels::value_of` meets its contract: the machine's numbers hold the stored number, the offset, and their difference.
use mathlib.Core.Path.{◌≡◌, ◌∙◌}
use native.Mathlib.Omega.{arith}
use lib.IntN.{pos}
use mir.Syntax.{w32}
use mir.Val.{to_z, of_z}
use mir.ValLaws.{to_z_pos, to_z-of_z}
use Rattle.channels.specs.Channel.{width_of}
use Rattle.channels.specs.Stored.{offset, value_of}
use Rattle.channels.proofs.Numbers.{value-fits, offset-fits}
use Rattle.channels.proofs.value_of.Goals as goal
use Rattle.channels.proofs.value_of.Goals.{After-offset_of, Start}

-- what the cast and the call give
cast : (s : Start) → to_z w32 s.args.number ≡ pos s.args.number
cast s = to_z_pos w32 s.args.number (omega arith)

called : (c : After-offset_of) → to_z w32 (of_z w32 c.offset_of.result) ≡ offset (width_of c.args.format) c.args.signed
called c = rw c.offset_of.ensures (to_z-of_z w32 _ (offset-fits c.args.format c.args.signed))

pub overflow_sub-result : goal.overflow_sub-result
overflow_sub-result c = rw (cast (goal.at.overflow_sub-result c).Start, called c) (value-fits c.args.format c.args.signed c.args.number (omega arith))

pub returns : goal.returns
unfolding value_of
returns c = to_z-of_z w32 _ (overflow_sub-result c) ∙ rw (cast (goal.at.returns c).Start, called c)
