-- `record_columns::fill` meets its contract. The invariant: the numbers of the stored channels that are gone through stand where they belong.
use Rattle.record_columns.proofs.Filling.{Gone}
use Rattle.record_columns.proofs.fill.Given as goal

abbrev pub invariant-loop-channel : goal.invariant-loop-channel
invariant-loop-channel l =
    Gone l.bytes l.start l.stored l.count l.step l.stride l.channel l.at l.from l.values
