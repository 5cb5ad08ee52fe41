-- `description_writing::put_description` meets its contract: the inclusion bits and the channels are laid one behind the other. The invariant of the channels:
-- what is left to lay from here makes of these bytes what the sixteen make of those that the loop found, and the highest bit of the signs is this channel's.
use lib.Dec.{T}
use lib.ListN.{drop}
use Rattle.formats.specs.Laid.{Owed}
use Rattle.formats.specs.Writes.{encode_each}
use Rattle.channels.specs.BitLaws.{SignsLeft}
use Rattle.channels.specs.Channel.{channels, width_of}
use Rattle.descriptions.specs.Description.{encode_channel, fits_descriptor, every}
use Rattle.description_writing.proofs.Laying.{left}
use Rattle.description_writing.proofs.put_description.Given as goal

abbrev pub invariant-loop-d : goal.invariant-loop-d
invariant-loop-d l =
    T (every (fits_descriptor (width_of l.format)) l.d-index (drop l.d-index l.fn.description.channels))
    × Owed l.initial.out l.initial.at (encode_each (encode_channel (width_of l.format)) channels l.fn.description.channels) l.out l.at (left (width_of l.format) l.fn.description.channels l.d-index)
    × SignsLeft l.signs l.d-index
