-- `values::put_run` meets its contract. The invariant: what is left to lay makes of these bytes what all of it makes of those at the start.
use Rattle.formats.specs.Laid.{Owed}
use Rattle.channels.specs.Channel.{width_of}
use Rattle.orders.specs.Parts.{many}
use Rattle.values.specs.Parts.{Inside, bytes_left}
use Rattle.values.proofs.put_run.Given as goal

abbrev pub invariant-loop-channel : goal.invariant-loop-channel
invariant-loop-channel l =
    Inside l.values l.stride (many l.stored l.channel) l.index
    × Owed l.initial.out l.start (bytes_left (width_of l.format) l.stride l.stored l.values l.first l.from) l.out l.at (bytes_left (width_of l.format) l.stride l.stored l.values l.channel l.index)
