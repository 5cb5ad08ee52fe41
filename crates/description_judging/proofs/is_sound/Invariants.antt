-- `description_judging::is_sound` meets its contract. The invariant: all are sound where those from here on are, and the highest bit of the signs is this channel's.
use mathlib.Core.Path.{◌≡◌}
use mathlib.Core.Bool.{Bool, ◌&&◌}
use Prim.Native.Nat.{ℕ}
use lib.ListN.{drop}
use Rattle.channels.specs.BitLaws.{SignsLeft}
use Rattle.channels.specs.Channel.{width_of}
use Rattle.channels.specs.declared.Descriptor.{Descriptor}
use Rattle.descriptions.specs.Description.{tidy_descriptor, fits_descriptor, neat, all_fit, every}
use Rattle.description_judging.proofs.is_sound.Given as goal

-- both tests of a channel
abbrev pub sound : ℕ → ℕ → Descriptor → Bool
sound w channel d = tidy_descriptor d && fits_descriptor w channel d

abbrev pub invariant-loop-d : goal.invariant-loop-d
invariant-loop-d l =
    SignsLeft l.signs l.d-index × ((neat l.fn.description && all_fit (width_of l.format) l.fn.description) ≡ every (sound (width_of l.format)) l.d-index (drop l.d-index l.fn.description.channels))
