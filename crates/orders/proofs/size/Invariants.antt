-- `orders::size` meets its contract. The invariant: all that are stored are those counted and those left.
use mathlib.Core.Path.{◌≡◌}
use Prim.Native.Nat.{◌≤◌, ◌+◌}
use lib.ListN.{length}
use Rattle.points.specs.Points.{channels}
use Rattle.orders.specs.Parts.{many}
use Rattle.orders.proofs.size.Given as goal

abbrev pub invariant-loop-is_stored : goal.invariant-loop-is_stored
invariant-loop-is_stored l = (l.n ≤ l.is_stored-index) × (length (channels l.is_stored-items) ≡ l.n + many l.is_stored-items l.is_stored-index)
