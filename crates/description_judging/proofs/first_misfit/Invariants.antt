-- `description_judging::first_misfit` meets its contract. The invariant: of all numbers is told what is told of those from here on, and the channels from here on are tidy.
use mathlib.Core.Path.{◌≡◌}
use lib.Dec.{T}
use lib.ListN.{drop}
use Rattle.refusals.specs.Ranges.{first_misfit}
use Rattle.channels.specs.Channel.{width_of}
use Rattle.descriptions.specs.Description.{tidy_descriptor, every}
use Rattle.description_judging.specs.Judging.{numbers_from, numbers}
use Rattle.description_judging.proofs.first_misfit.Given as goal

abbrev pub invariant-loop-channel : goal.invariant-loop-channel
invariant-loop-channel l =
    T (every (λ channel. tidy_descriptor) l.channel (drop l.channel l.fn.description.channels))
    × (first_misfit (numbers (width_of l.format) l.fn.description) ≡ first_misfit (numbers_from (width_of l.format) l.channel (drop l.channel l.fn.description.channels)))
