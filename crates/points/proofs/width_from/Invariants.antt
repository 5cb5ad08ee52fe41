-- `points::width_from` meets its contract. The invariant: the whole width is what was gathered and what the channels left have.
use mathlib.Core.Path.{◌≡◌}
use Prim.Native.Nat.{◌≤◌, ◌-◌, ◌+◌, ◌*◌}
use lib.ListN.{drop}
use Rattle.channels.specs.Channel.{width_of}
use Rattle.points.specs.Points.{stored_from, widths}
use Rattle.points.proofs.width_from.Given as goal

abbrev pub invariant-loop-channel : goal.invariant-loop-channel
invariant-loop-channel l =
    (l.w ≤ 2 * (l.channel - l.first)) × (l.channel - 16 ≤ l.first - 16)
    × (widths (width_of l.format) (stored_from l.first (drop l.first l.stored)) ≡ l.w + widths (width_of l.format) (stored_from l.channel (drop l.channel l.stored)))
