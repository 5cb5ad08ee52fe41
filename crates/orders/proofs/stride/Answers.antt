-- `orders::stride` meets its contract.
use Rattle.orders.specs.Orders.{stride}
use Rattle.orders.proofs.stride.Goals as goal

pub returns-in-Point : goal.returns-in-Point
unfolding stride
returns-in-Point c = rw c.in-Point.is

pub returns-in-Column : goal.returns-in-Column
unfolding stride
returns-in-Column c = rw c.in-Column.is
