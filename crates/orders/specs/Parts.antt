-- What loops over channels and points say of themselves: what is left to count, and what holds at indices a distance apart.
use Rattle.std.specs.Prelude.{Bool, List, ℕ, ◌+◌, ◌*◌, ◌<◌, length, drop}
use Rattle.points.specs.Points.{stored_from}

-- of a point's channels from the ith on, how many are stored
unfoldable pub many : List Bool → (i : ℕ) → ℕ
many stored i = length (stored_from i (drop i stored))

-- what holds at k indices, from one on, a stride apart
abbrev pub AllAt : (ℕ → Type 0) → (stride k from : ℕ) → Type 0
AllAt P stride k from = (r : ℕ) → r < k → P (from + r * stride)
