-- `record_writing::write_columns` meets its contract: it is the case of values column by column, of what both orders are.
use Rattle.record_writing.proofs.write_columns.Goals as goal

pub returns : goal.returns
returns c = c.write_in.ensures
