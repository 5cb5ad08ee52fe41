-- `bodies::unjudged` meets its contract: a description of nothing stands beside the verdict.
use Rattle.bodies.proofs.unjudged.Goals as goal

pub returns : goal.returns
returns c = rw c.nothing-description.ensures
