-- `description_writing::size` meets its contract. The invariant: what was counted and what is left are the whole.
use mathlib.Core.Path.{◌≡◌}
use Prim.Native.Nat.{◌+◌}
use lib.ListN.{length}
use Rattle.channels.specs.Channel.{width_of}
use Rattle.descriptions.specs.Description.{encode_description}
use Rattle.description_writing.proofs.Laying.{left}
use Rattle.description_writing.proofs.size.Given as goal

abbrev pub invariant-loop-d : goal.invariant-loop-d
invariant-loop-d l =
    (length (encode_description (width_of l.format) l.fn.description) ≡ l.total + length (left (width_of l.format) l.fn.description.channels l.d-index))
