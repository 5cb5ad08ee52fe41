-- `turning::put_points` meets its contract. The invariant: the ith point stands i widths behind the first, and the bytes of the points that are left are owed.
use mathlib.Core.Path.{◌≡◌}
use mathlib.Core.List.{List}
use Prim.Native.Nat.{ℕ, ◌+◌, ◌*◌}
use lib.IntN.{ℤ}
use lib.ListN.{drop}
use Rattle.formats.specs.Reader.{ok, read_at, times}
use Rattle.formats.specs.Laid.{Owed}
use Rattle.points.specs.Points.{point, width}
use Rattle.values.specs.Values.{bytes_of}
use Rattle.turning.proofs.put_points.Given as goal

abbrev pub invariant-loop : goal.invariant-loop
invariant-loop l =
    (l.at ≡ l.start + l.counter * width 2 l.stored)
    × ((points : List (List ℤ)) (end : ℕ) → read_at (times l.count (point 2 l.stored)) l.whole l.start ≡ ok points end → Owed l.initial.out 0 (bytes_of 1 l.stored points) l.out l.to (bytes_of 1 l.stored (drop l.counter points)))
