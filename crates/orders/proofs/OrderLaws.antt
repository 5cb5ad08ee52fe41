-- Numbers in point order and by column: each index is that of one point and one rank, both orders hold the same points, and points laid out are those points.
use Rattle.std.specs.Prelude.{◌≡◌, ℤ, pos}
use Rattle.std.proofs.Math.Path.{refl, sym, ap}
use Rattle.std.proofs.Common.{◌∙◌, mod-eq_of_lt, div-add-mod', div-lt_iff_lt-mul, get_or-append-add, ext_get_or}
use mathlib.Core.List.{List, [], ◌∷◌, flatten}
use Prim.Native.Nat.{ℕ, zero, suc, ◌+◌, ◌*◌, ◌/◌, ◌%◌, ◌≤◌, ◌<◌}
use Rattle.std.proofs.Math.Nat.{mul_comm, mul-le-mul_right, mul-add-div_right, mul-add-mod_self_right, div-eq_of_lt, mod-lt}
use native.Mathlib.Omega.{arith}
use Rattle.std.proofs.Math.ListN.{length, get_or, length-append, get_or-append, get_or-map}
use Rattle.std.proofs.lemmas.List.{length-map}
use Rattle.formats.specs.Writes.{All}
use Rattle.orders.specs.Orders.{step, stride, index, Same, numbers_from, points_from, points_of, column, columns_from, values_of}
use Rattle.orders.specs.declared.Order.{Order}
use Rattle.orders.specs.declared.Order.TheVariants.{Point, Column}

-- ---- Each index is that of one point and one rank

-- what stands q lines of n behind the start, and m within its line
module _ (n q m : ℕ) (h : m < n) where
  line : (q * n + m) / n ≡ q
  line = mul-add-div_right {m = n} (omega arith) q m ∙ ap (λ z. q + z) (div-eq_of_lt h) ∙ omega arith

  within-line : (q * n + m) % n ≡ m
  within-line = mul-add-mod_self_right q n m ∙ mod-eq_of_lt h

positive : (a b : ℕ) {c : ℕ} → c < a * b → 0 < a
positive zero b h = absurd (omega arith)
positive (suc a) b h = omega arith

-- the point and the rank whose number has an index
unfoldable pub point_at : Order → (count k at : ℕ) → ℕ
point_at Point count k at = at / k
point_at Column count k at = at % count

unfoldable pub rank_at : Order → (count k at : ℕ) → ℕ
rank_at Point count k at = at % k
rank_at Column count k at = at / count

module _ (count k : ℕ) where
  module _ (i r : ℕ) (h : i < count) (g : r < k) where
    pub index-within : (order : Order) → index order count k i r < count * k
    unfolding step stride
    index-within Point = omega (arith, mul-le-mul_right {m = suc i} {n = count} k (omega arith))
    index-within Column = omega (arith, mul_comm count k, mul-le-mul_right {m = suc r} {n = k} count (omega arith))

    pub point_at_lem : (order : Order) → point_at order count k (index order count k i r) ≡ i
    unfolding point_at step stride
    point_at_lem Point = let z : i * k + r * 1 ≡ i * k + r = omega arith in rw z (line k i r g)
    point_at_lem Column = let z : i * 1 + r * count ≡ r * count + i = omega arith in rw z (within-line count r i h)

    pub rank-at : (order : Order) → rank_at order count k (index order count k i r) ≡ r
    unfolding rank_at step stride
    rank-at Point = let z : i * k + r * 1 ≡ i * k + r = omega arith in rw z (within-line k i r g)
    rank-at Column = let z : i * 1 + r * count ≡ r * count + i = omega arith in rw z (line count r i h)

  -- and so far the strides go
  pub strides-within : (r : ℕ) → r < k → (order : Order) → (r + 1) * stride order count ≤ count * k + k
  unfolding stride
  strides-within r g Point = omega arith
  strides-within r g Column = omega (arith, mul_comm count k, mul-le-mul_right {m = suc r} {n = k} count (omega arith))

  -- every index below the amount is that of its point and its rank
  pub record Stands (order : Order) (at : ℕ) : Type 0 where
    pub counted : point_at order count k at < count
    pub among : rank_at order count k at < k
    pub is : at ≡ index order count k (point_at order count k at) (rank_at order count k at)

  pub stands : (order : Order) (at : ℕ) → at < count * k → Stands order at
  unfolding point_at rank_at step stride
  stands Point at h =
      let some : 0 < k = positive k count (rw (mul_comm count k) at h) in
      record { counted = (div-lt_iff_lt-mul some).1 h; among = mod-lt at some; is = sym (div-add-mod' at k) ∙ omega arith }
  stands Column at h =
      let some : 0 < count = positive count k h in
      record { counted = mod-lt at some; among = (div-lt_iff_lt-mul some).1 (rw (mul_comm count k) at h); is = sym (div-add-mod' at count) ∙ omega arith }

  -- so two lists of that amount are the same where they hold the same number for each point and rank
  pub same-values : (order : Order) (a b : List ℤ) → length a ≡ count * k → length b ≡ count * k
      → ((i r : ℕ) → i < count → r < k → get_or a (index order count k i r) (pos 0) ≡ get_or b (index order count k i r) (pos 0)) → a ≡ b
  same-values order a b m n h =
      ext_get_or (pos 0) a b (m ∙ sym n) (λ at q.
      let s = stands order at (omega (arith, m)) in
      ap (λ j. get_or a j (pos 0)) s.is ∙ h _ _ s.counted s.among ∙ sym (ap (λ j. get_or b j (pos 0)) s.is))

pub step-within : (k : ℕ) → 0 < k → k ≤ 16 → (order : Order) → (0 < step order k) × (step order k ≤ 16)
unfolding step
step-within k g h Point = (g, h)
step-within k g h Column = (omega arith, omega arith)

-- ---- Where a number stands

module _ (values : List ℤ) (d : ℕ) where
  length-numbers : (k from : ℕ) → length (numbers_from values d k from) ≡ k
  unfolding numbers_from
  length-numbers zero from = refl
  length-numbers (suc k) from = ap suc (length-numbers k (from + d))

  nth_number : (k from r : ℕ) → r < k → get_or (numbers_from values d k from) r (pos 0) ≡ get_or values (from + r * d) (pos 0)
  unfolding numbers_from
  nth_number zero from r h = absurd (omega arith)
  nth_number (suc k) from zero h = let z : from ≡ from + 0 * d = omega arith in ap (λ i. get_or values i (pos 0)) z
  nth_number (suc k) from (suc r) h =
      let z : from + d + r * d ≡ from + suc r * d = omega arith in
      nth_number k (from + d) r (omega arith) ∙ ap (λ i. get_or values i (pos 0)) z

  module _ (k p : ℕ) where
    length-points : (n from : ℕ) → length (points_from values d k p n from) ≡ n
    unfolding points_from
    length-points zero from = refl
    length-points (suc n) from = ap suc (length-points n (from + p))

    nth-point : (n from i : ℕ) → i < n → get_or (points_from values d k p n from) i [] ≡ numbers_from values d k (from + i * p)
    unfolding points_from
    nth-point zero from i h = absurd (omega arith)
    nth-point (suc n) from zero h = let z : from ≡ from + 0 * p = omega arith in ap (numbers_from values d k) z
    nth-point (suc n) from (suc i) h =
        let z : from + p + i * p ≡ from + suc i * p = omega arith in
        nth-point n (from + p) i (omega arith) ∙ ap (numbers_from values d k) z

module _ (order : Order) (count k : ℕ) (values : List ℤ) where
  -- there are as many points as are counted
  pub points-many : length (points_of order count k values) ≡ count
  unfolding points_of
  points-many = length-points values (stride order count) k (step order k) count 0

  -- and the rth number of the ith is the one with their index
  pub number_is : (i r : ℕ) → i < count → r < k → get_or (get_or (points_of order count k values) i []) r (pos 0) ≡ get_or values (index order count k i r) (pos 0)
  unfolding points_of
  number_is i r h g =
      ap (λ l. get_or l r (pos 0)) (nth-point values (stride order count) k (step order k) count 0 i h)
      ∙ nth_number values (stride order count) k (0 + i * step order k) r g
      ∙ ap (λ j. get_or values j (pos 0)) {x = 0 + i * step order k + r * stride order count} {y = i * step order k + r * stride order count} (omega arith)

  -- each of them has k numbers
  pub points-size : (i : ℕ) → i < count → length (get_or (points_of order count k values) i []) ≡ k
  unfolding points_of
  points-size i h =
      ap length (nth-point values (stride order count) k (step order k) count 0 i h) ∙ length-numbers values (stride order count) k (0 + i * step order k)

-- ---- Points that have the same numbers

pub size-at : (k : ℕ) (l : List (List ℤ)) → All (λ p. length p ≡ k) l → (i : ℕ) → i < length l → length (get_or l i []) ≡ k
size-at k [] h i q = absurd (omega arith)
size-at k (p ∷ l) h zero q = h.0
size-at k (p ∷ l) h (suc i) q = size-at k l h.1 i (omega arith)

pub all-sized : (k : ℕ) (l : List (List ℤ)) → ((i : ℕ) → i < length l → length (get_or l i []) ≡ k) → All (λ p. length p ≡ k) l
all-sized k [] h = tt
all-sized k (p ∷ l) h = (h 0 (omega arith), all-sized k l (λ i q. h (suc i) (omega arith)))

module _ (count k : ℕ) where
  -- so many points of so many numbers
  pub record Sized (points : List (List ℤ)) : Type 0 where
    pub many : length points ≡ count
    pub each : (i : ℕ) → i < count → length (get_or points i []) ≡ k

  pub sized : (order : Order) (values : List ℤ) → Sized (points_of order count k values)
  sized order values = record { many = points-many order count k values; each = points-size order count k values }

  same-each : (a b : List (List ℤ)) → Sized a → Sized b → ((i r : ℕ) → i < count → r < k → get_or (get_or a i []) r (pos 0) ≡ get_or (get_or b i []) r (pos 0)) → a ≡ b
  same-each a b m n h =
      ext_get_or [] a b (m.many ∙ sym n.many) (λ i q.
      let g : i < count = omega (arith, m.many) in
      ext_get_or (pos 0) (get_or a i []) (get_or b i []) (m.each i g ∙ sym (n.each i g)) (λ r f. h i r g (omega (arith, m.each i g))))

  -- values in point order, and the same by column, are the same points
  pub same_points : (rows columns : List ℤ) → Same count k rows columns → points_of Point count k rows ≡ points_of Column count k columns
  same_points rows columns same =
      same-each (points_of Point count k rows) (points_of Column count k columns) (sized Point rows) (sized Column columns) (λ i r h g.
      number_is Point count k rows i r h g ∙ same i r h g ∙ sym (number_is Column count k columns i r h g))

-- ---- Points laid out

-- lines of n numbers, laid in one row
module _ (n : ℕ) where
  flat-length : (l : List (List ℤ)) → All (λ p. length p ≡ n) l → length (flatten l) ≡ length l * n
  unfolding flatten
  flat-length [] h = omega arith
  flat-length (p ∷ l) h = length-append p (flatten l) ∙ omega (arith, h.0, flat-length l h.1)

  flat-at : (l : List (List ℤ)) → All (λ p. length p ≡ n) l → (q m : ℕ) → q < length l → m < n → get_or (flatten l) (q * n + m) (pos 0) ≡ get_or (get_or l q []) m (pos 0)
  unfolding flatten
  flat-at [] h q m f g = absurd (omega arith)
  flat-at (p ∷ l) h zero m f g =
      let z : 0 * n + m ≡ m = omega arith in
      rw z (get_or-append p (flatten l) (pos 0) m (omega (arith, h.0)))
  flat-at (p ∷ l) h (suc q) m f g =
      let z : suc q * n + m ≡ length p + (q * n + m) = omega (arith, h.0) in
      rw z (get_or-append-add p (flatten l) (q * n + m) (pos 0) ∙ flat-at l h.1 q m (omega arith) g)

-- the columns, each with a number of every point
column-at : (r : ℕ) (points : List (List ℤ)) (i : ℕ) → get_or (column r points) i (pos 0) ≡ get_or (get_or points i []) r (pos 0)
unfolding column
column-at r points i = get_or-map (λ point. get_or point r (pos 0)) points i []

column-length : (r : ℕ) (points : List (List ℤ)) → length (column r points) ≡ length points
unfolding column
column-length r points = length-map points (λ point. get_or point r (pos 0))

columns-many : (k r : ℕ) (points : List (List ℤ)) → length (columns_from k r points) ≡ k
unfolding columns_from
columns-many zero r points = refl
columns-many (suc k) r points = ap suc (columns-many k (suc r) points)

columns-sizes : (k r : ℕ) (points : List (List ℤ)) → All (λ l. length l ≡ length points) (columns_from k r points)
unfolding columns_from
columns-sizes zero r points = tt
columns-sizes (suc k) r points = (column-length r points, columns-sizes k (suc r) points)

columns-at : (k first : ℕ) (points : List (List ℤ)) (r : ℕ) → r < k → get_or (columns_from k first points) r [] ≡ column (first + r) points
unfolding columns_from
columns-at zero first points r h = absurd (omega arith)
columns-at (suc k) first points zero h = let z : first ≡ first + 0 = omega arith in ap (λ n. column n points) z
columns-at (suc k) first points (suc r) h = let z : suc first + r ≡ first + suc r = omega arith in columns-at k (suc first) points r (omega arith) ∙ ap (λ n. column n points) z

module _ (k : ℕ) (points : List (List ℤ)) (sizes : All (λ p. length p ≡ k) points) where
  -- they are count times k values
  pub values-many : (order : Order) → length (values_of order k points) ≡ length points * k
  unfolding values_of
  values-many Point = flat-length k points sizes
  values-many Column = flat-length (length points) (columns_from k 0 points) (columns-sizes k 0 points) ∙ rw (columns-many k 0 points) (mul_comm k (length points))

  -- and the number of point i and rank r has their index
  pub value-is : (order : Order) (i r : ℕ) → i < length points → r < k → get_or (values_of order k points) (index order (length points) k i r) (pos 0) ≡ get_or (get_or points i []) r (pos 0)
  unfolding values_of step stride
  value-is Point i r h g = let z : i * k + r * 1 ≡ i * k + r = omega arith in rw z (flat-at k points sizes i r h g)
  value-is Column i r h g =
      let z : i * 1 + r * length points ≡ r * length points + i = omega arith in
      rw z
      (flat-at (length points) (columns_from k 0 points) (columns-sizes k 0 points) r i (omega (arith, columns-many k 0 points)) h
      ∙ ap (λ l. get_or l i (pos 0)) (columns-at k 0 points r g)
      ∙ column-at (0 + r) points i
      ∙ let y : 0 + r ≡ r = omega arith in ap (λ n. get_or (get_or points i []) n (pos 0)) y)

  -- so points laid out are those points
  pub points-again : (order : Order) → points_of order (length points) k (values_of order k points) ≡ points
  points-again order =
      same-each (length points) k (points_of order (length points) k (values_of order k points)) points
      (sized (length points) k order (values_of order k points))
      (record { many = refl; each = size-at k points sizes })
      (λ i r h g. number_is order (length points) k (values_of order k points) i r h g ∙ value-is order i r h g)

  -- and both orders hold the same numbers: each point's number at its two places
  pub both-orders : Same (length points) k (values_of Point k points) (values_of Column k points)
  both-orders i r h g = value-is Point i r h g ∙ sym (value-is Column i r h g)

-- and values of the right amount are those that their points are
pub values-again : (order : Order) (count k : ℕ) (values : List ℤ) → length values ≡ count * k → values_of order k (points_of order count k values) ≡ values
values-again order count k values amount =
    let points = points_of order count k values in
    let s = sized count k order values in
    let sizes = all-sized k points (λ i h. s.each i (omega (arith, s.many))) in
    same-values count k order (values_of order k points) values (values-many k points sizes order ∙ ap (λ n. n * k) s.many) amount (λ i r h g.
    ap (λ n. get_or (values_of order k points) (index order n k i r) (pos 0)) (sym s.many)
    ∙ value-is k points sizes order i r (omega (arith, s.many)) g
    ∙ number_is order count k values i r h g)
