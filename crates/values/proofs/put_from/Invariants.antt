-- `values::put_from` meets its contract. The invariant: what is left to lay makes of these bytes what all of it makes of those at the start.
use Prim.Native.Nat.{◌-◌}
use Rattle.formats.specs.Laid.{Owed}
use Rattle.channels.specs.Channel.{width_of}
use Rattle.points.specs.Points.{channels}
use Rattle.orders.specs.Orders.{size}
use Rattle.orders.specs.Parts.{AllAt}
use Rattle.values.specs.Parts.{Inside, points_bytes}
use Rattle.values.proofs.put_from.Given as goal

abbrev pub invariant-loop : goal.invariant-loop
invariant-loop l =
    AllAt (Inside l.values l.stride (size l.stored)) l.step (l.count - l.counter) l.from
    × Owed l.initial.out l.start (points_bytes (width_of l.format) l.stride (channels l.stored) l.values l.step l.count 0) l.out l.at (points_bytes (width_of l.format) l.stride (channels l.stored) l.values l.step (l.count - l.counter) l.from)
