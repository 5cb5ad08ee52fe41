-- `points::walk_points` meets its contract. The invariant: the steps left from the next point end as all of them do from the start.
use mathlib.Core.Path.{◌≡◌}
use mathlib.Core.List.{List}
use Prim.Native.Nat.{ℕ, ◌-◌, ◌+◌, ◌*◌}
use Rattle.formats.specs.Told.{repeated}
use Rattle.points.specs.Parts.{switched}
use Rattle.points.proofs.walk_points.Given as goal

-- of n points, those behind the first i end as all do
abbrev pub Left : List ℕ → (start width offset n i : ℕ) → Type 0
Left s start width offset n i = repeated (λ p. switched s p width offset) n start ≡ repeated (λ p. switched s p width offset) (n - i) (start + i * width)

abbrev pub invariant-loop : goal.invariant-loop
invariant-loop l = (l.switch ≡ l.start + l.counter * l.width + l.offset) × Left l.bytes l.start l.width l.offset l.count l.counter
