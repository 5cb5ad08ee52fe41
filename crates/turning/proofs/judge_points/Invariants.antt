-- `turning::judge_points` meets its contract. The invariant: of all points is told what is told of those left, the first of which stands here.
use mathlib.Core.Path.{◌≡◌}
use mathlib.Core.List.{List}
use Prim.Native.Nat.{ℕ, ◌≤◌, ◌+◌, ◌*◌}
use lib.IntN.{ℤ}
use Rattle.formats.specs.Reader.{ok, read_at, times}
use Rattle.refusals.specs.Ranges.{first_misfit}
use Rattle.points.specs.Points.{point}
use Rattle.orders.specs.Orders.{size, values_of}
use Rattle.orders.specs.declared.Order.TheVariants.{Point}
use Rattle.values.specs.Values.{samples}
use Rattle.turning.proofs.Judging.{misfit_left}
use Rattle.turning.proofs.judge_points.Given as goal

abbrev pub invariant-loop : goal.invariant-loop
invariant-loop l =
    (l.at ≡ l.start + l.counter * l.width) × (l.from ≡ l.counter * l.size) × (l.from ≤ 16 * l.counter)
    × ((points : List (List ℤ)) (end : ℕ) → read_at (times l.count (point 2 l.stored)) l.whole l.start ≡ ok points end
    → first_misfit (samples 1 l.stored Point l.count (values_of Point (size l.stored) points)) ≡ misfit_left l.stored l.count points l.counter)
