-- `costs::costs_rest` meets its contract: the part that `records` has.
use mathlib.Core.Path.{ap, ◌∙◌}
use Rattle.costs.specs.Handed.{piece_of}
use Rattle.costs.proofs.costs_rest.Goals as goal

pub returns : goal.returns
returns c = c.piece_of.ensures ∙ ap piece_of c.rest.ensures.bytes
