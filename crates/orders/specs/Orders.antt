-- The numbers of many sample points, lent in one of two orders: where each stands, the points that they are, and points laid out so.
use Rattle.std.specs.Prelude.{◌≡◌, Bool, ℕ, zero, suc, ◌+◌, ◌*◌, ◌<◌, ℤ, pos, length, get_or}
use mathlib.Core.List.{List, [], ◌∷◌, map, flatten}
use Rattle.points.specs.Points.{channels}
use Rattle.orders.specs.declared.Order.{Order}
use Rattle.orders.specs.declared.Order.TheVariants.{Point, Column}

-- ---- Where a number stands

-- how many numbers a point has
abbrev pub size : List Bool → ℕ
size stored = length (channels stored)

-- how far it is from a number to that of the next point, and to that of the next stored channel, where a point has k numbers:
-- in point order the numbers of a point stand side by side, by column those of a channel do
unfoldable pub step : Order → (k : ℕ) → ℕ
step Point k = k
step Column k = 1

unfoldable pub stride : Order → (count : ℕ) → ℕ
stride Point count = 1
stride Column count = count

-- so the number of point i and the rth stored channel has this index among the values
abbrev pub index : Order → (count k i r : ℕ) → ℕ
index order count k i r = i * step order k + r * stride order count

-- values in point order, and the same by column: each point's number stands at its two places
abbrev pub Same : (count k : ℕ) (rows columns : List ℤ) → Type 0
Same count k rows columns =
    (i r : ℕ) → i < count → r < k → get_or rows (index Point count k i r) (pos 0) ≡ get_or columns (index Column count k i r) (pos 0)

-- ---- The points that some values are

-- k numbers from an index on, a stride apart; and n points of them, a step apart
unfoldable pub numbers_from : List ℤ → (stride k from : ℕ) → List ℤ
numbers_from values stride zero from = []
numbers_from values stride (suc k) from = get_or values from (pos 0) ∷ numbers_from values stride k (from + stride)

unfoldable pub points_from : List ℤ → (stride k step n from : ℕ) → List (List ℤ)
points_from values stride k step zero from = []
points_from values stride k step (suc n) from = numbers_from values stride k from ∷ points_from values stride k step n (from + step)

unfoldable pub points_of : Order → (count k : ℕ) → List ℤ → List (List ℤ)
points_of order count k values = points_from values (stride order count) k (step order k) count 0

-- ---- The values that some points are

-- the rth number of each point, and k such columns from the rth on
unfoldable pub column : (r : ℕ) → List (List ℤ) → List ℤ
column r points = map (λ point. get_or point r (pos 0)) points

unfoldable pub columns_from : (k r : ℕ) → List (List ℤ) → List (List ℤ)
columns_from zero r points = []
columns_from (suc k) r points = column r points ∷ columns_from k (suc r) points

-- point after point, or column after column
unfoldable pub values_of : Order → (k : ℕ) → List (List ℤ) → List ℤ
values_of Point k points = flatten points
values_of Column k points = flatten (columns_from k 0 points)
