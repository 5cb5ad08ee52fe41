-- `values::judge_point` meets its contract. The invariant: of the whole point is told what is told of the numbers left, which are among the values.
use mathlib.Core.Path.{◌≡◌}
use Rattle.refusals.specs.Ranges.{first_misfit}
use Rattle.channels.specs.Channel.{width_of}
use Rattle.points.specs.Points.{channels}
use Rattle.values.specs.Values.{samples_in}
use Rattle.orders.specs.Parts.{many}
use Rattle.values.specs.Parts.{Inside}
use Rattle.values.proofs.Lent.{judge_left}
use Rattle.values.proofs.judge_point.Given as goal

abbrev pub invariant-loop-channel : goal.invariant-loop-channel
invariant-loop-channel l =
    Inside l.values l.stride (many l.stored l.channel) l.index
    × (first_misfit (samples_in (width_of l.format) l.stride (channels l.stored) l.values l.from) ≡ judge_left (width_of l.format) l.stride l.stored l.values l.channel l.index)
