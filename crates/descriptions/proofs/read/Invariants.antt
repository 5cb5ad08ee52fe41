-- `descriptions::read` meets its contract. The invariant: the arrays have the descriptors of the channels so far and their flags, and say nothing of those left; the highest of the inclusion bits, and of the signs, is this channel's.
use Rattle.channels.specs.BitLaws.{Moved, SignsLeft}
use Rattle.descriptions.proofs.Reading.{Gone}
use Rattle.descriptions.proofs.read.Given as goal

abbrev pub invariant-loop-channel : goal.invariant-loop-channel
invariant-loop-channel l =
    Gone l.format l.initial.bits l.s l.initial.at l.descriptors l.included l.stored l.channel l.at × Moved l.initial.bits l.bits l.channel × SignsLeft l.signs l.channel
