-- `descriptions::measure` meets its contract. The invariant: some descriptors were read of the channels so far, and the flags are theirs.
use mathlib.Core.List.{List}
use Rattle.channels.specs.BitLaws.{Moved}
use Rattle.channels.specs.declared.Descriptor.{Descriptor}
use Rattle.descriptions.proofs.Reading.{Gone}
use Rattle.descriptions.proofs.measure.Given as goal

abbrev pub invariant-loop-channel : goal.invariant-loop-channel
invariant-loop-channel l =
    (ds : List Descriptor) × Gone l.format l.initial.bits l.s l.initial.at ds l.included l.stored l.channel l.at × Moved l.initial.bits l.bits l.channel
