-- What private functions answer: the numbers of a point among the values, and the bytes of a point and of many.
use Rattle.std.specs.Prelude.{Bool, ℕ, ◌<◌, ℤ, length, drop}
use mathlib.Core.List.{List, flat_map}
use Rattle.formats.specs.Writes.{encode_each}
use Rattle.points.specs.Points.{stored_from}
use Rattle.orders.specs.Orders.{numbers_from, points_from}
use Rattle.orders.specs.Parts.{AllAt}
use Rattle.values.specs.Values.{sample_bytes}

-- the k numbers of a point are among the values
abbrev pub Inside : List ℤ → (stride k from : ℕ) → Type 0
Inside values stride k from = AllAt (λ i. i < length values) stride k from

-- the bytes of a point whose numbers stand from an index on, a stride apart; and of n such points, a step apart
unfoldable pub point_bytes : (w stride : ℕ) → List ℕ → List ℤ → (from : ℕ) → List ℕ
point_bytes w stride l values from = encode_each (sample_bytes w) l (numbers_from values stride (length l) from)

unfoldable pub points_bytes : (w stride : ℕ) → List ℕ → List ℤ → (step n from : ℕ) → List ℕ
points_bytes w stride l values step n from = flat_map (encode_each (sample_bytes w) l) (points_from values stride (length l) step n from)

-- the bytes of a point's numbers, those of its channels from the ith on
unfoldable pub bytes_left : (w stride : ℕ) → List Bool → List ℤ → (i from : ℕ) → List ℕ
bytes_left w stride stored values i from = point_bytes w stride (stored_from i (drop i stored)) values from
