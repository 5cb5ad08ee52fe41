-- `costs::costs_extended` meets its contract: the part that `records` has.
use mathlib.Core.Path.{ap, ◌∙◌}
use Rattle.costs.specs.Handed.{piece_of}
use Rattle.costs.proofs.costs_extended.Goals as goal

pub returns : goal.returns
returns c = c.piece_of.ensures ∙ ap piece_of c.extended.ensures.bytes
