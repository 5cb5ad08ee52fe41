-- `values::judge_from` meets its contract. The invariant: of all points is told what is told of those left.
use mathlib.Core.Path.{◌≡◌}
use Prim.Native.Nat.{◌-◌}
use Rattle.refusals.specs.Ranges.{first_misfit}
use Rattle.channels.specs.Channel.{width_of}
use Rattle.points.specs.Points.{channels}
use Rattle.orders.specs.Orders.{size}
use Rattle.orders.specs.Parts.{AllAt}
use Rattle.values.specs.Values.{samples_from}
use Rattle.values.specs.Parts.{Inside}
use Rattle.values.proofs.judge_from.Given as goal

abbrev pub invariant-loop : goal.invariant-loop
invariant-loop l =
    AllAt (Inside l.values l.stride (size l.stored)) l.step (l.count - l.counter) l.from
    × (first_misfit (samples_from (width_of l.format) l.stride (channels l.stored) l.values l.step l.count 0) ≡ first_misfit (samples_from (width_of l.format) l.stride (channels l.stored) l.values l.step (l.count - l.counter) l.from))
