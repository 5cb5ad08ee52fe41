-- `orders::step` meets its contract.
use Rattle.orders.specs.Orders.{step}
use Rattle.orders.proofs.step.Goals as goal

pub returns-in-Point : goal.returns-in-Point
unfolding step
returns-in-Point c = rw c.in-Point.is

pub returns-in-Column : goal.returns-in-Column
unfolding step
returns-in-Column c = rw c.in-Column.is
