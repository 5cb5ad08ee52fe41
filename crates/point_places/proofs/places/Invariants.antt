-- `point_places::places` meets its contract. The invariant: the point is told by the places so far and what the channels left have from here.
use mathlib.Core.Path.{◌≡◌}
use lib.ListN.{length}
use Rattle.channels.specs.Channel.{width_of}
use Rattle.point_places.proofs.Setting.{SoFar}
use Rattle.point_places.proofs.places.Given as goal

abbrev pub invariant-loop-channel : goal.invariant-loop-channel
invariant-loop-channel l =
    (length l.places ≡ 16) × SoFar (width_of l.format) l.fn.included l.stored l.bytes l.start l.places l.channel l.at
