-- `record_columns::fill_channel` meets its contract. The invariant: the numbers of the first i points are filled in, and every other is as it was.
use mathlib.Core.Path.{◌≡◌}
use Prim.Native.Nat.{◌+◌, ◌*◌}
use Rattle.record_columns.specs.Parts.{ChannelFilled}
use Rattle.record_columns.proofs.fill_channel.Given as goal

abbrev pub invariant-loop : goal.invariant-loop
invariant-loop l =
    (l.at ≡ l.start + l.counter * l.width) × (l.index ≡ l.from + l.counter * l.step) × ChannelFilled l.bytes l.channel l.start l.width l.from l.step l.counter l.initial.values l.values
