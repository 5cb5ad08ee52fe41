-- `points::width` meets its contract.
use Rattle.points.specs.Points.{channels, width as point_width}
use Rattle.points.proofs.width.Goals as goal

pub returns : goal.returns
unfolding point_width channels
returns c = c.width_from.ensures
