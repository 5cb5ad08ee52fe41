-- `double_costs::read_of` meets its contract, variant by variant. Assumes nothing.
use Rattle.double_costs.proofs.read_of.Goals as goal

pub returns-in-Ok : goal.returns-in-Ok
returns-in-Ok c = rw c.in-Ok.is

pub returns-in-Err : goal.returns-in-Err
returns-in-Err c = rw (c.in-Err.is, c.number.ensures)
