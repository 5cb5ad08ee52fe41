-- `turning::put_places` meets its contract. The invariant: the bytes of the places that are left are owed.
use lib.ListN.{drop}
use Rattle.formats.specs.Laid.{Owed}
use Rattle.turning.specs.Parts.{bytes_in}
use Rattle.turning.proofs.put_places.Given as goal

abbrev pub invariant-loop-channel : goal.invariant-loop-channel
invariant-loop-channel l =
    Owed l.initial.out l.start (bytes_in 0 l.place-items) l.out l.at (bytes_in l.channel (drop l.channel l.place-items))
