-- `record_writing::write` meets its contract: it is the case of values point by point, of what both orders are.
use Rattle.record_writing.proofs.write.Goals as goal

pub returns : goal.returns
returns c = c.write_in.ensures
