-- `record_reading::unjudged` meets its contract: the description is the one that says nothing.
use Rattle.record_reading.proofs.unjudged.Goals as goal

pub returns : goal.returns
returns c = rw c.nothing-description.ensures
