-- A compact body (8.4): its sample points, a byte for each stored channel, one behind the other, and nothing else.
-- No opening byte, no count and no extended data: which channels are stored, its template says, as sixteen flags.
use Rattle.std.specs.Prelude.{◌≡◌, Bool, cond, ℕ, zero, suc, ◌+◌, ◌/◌, ◌%◌, eqb, ℤ, length}
use mathlib.Core.List.{List, [], flat_map}
use Rattle.formats.specs.Reader.{Answer, run, times}
use Rattle.formats.specs.Writes.{All}
use Rattle.points.specs.Points.{point, width, encode_point, ValidPoint}

-- ---- How it is written

abbrev pub encode_body : (stored : List Bool) → List (List ℤ) → List ℕ
encode_body stored points = flat_map (encode_point 1 stored) points

-- which points are a body: a point without bytes leaves no trace, so where nothing is stored a body has none
pub record ValidBody (stored : List Bool) (points : List (List ℤ)) : Type 0 where
  pub each : All (ValidPoint 1 stored) points
  pub traced : width 1 stored ≡ 0 → points ≡ []

-- some bytes are a body when they are what is written for such points
pub record IsBody (stored : List Bool) (b : List ℕ) : Type 0 where
  pub value : List (List ℤ)
  pub valid : ValidBody stored value
  pub written : b ≡ encode_body stored value

-- ---- How it is read

-- how many points of w bytes some bytes begin: those that are whole, and one more where the bytes end inside it
unfoldable pub begun : (w bytes : ℕ) → ℕ
begun zero bytes = 0
begun (suc w) bytes = bytes / suc w + cond (eqb (bytes % suc w) 0) 0 1

-- as many are read: so bytes that end inside a point are short, or 8 where a byte of S before their end isn't admitted
unfoldable pub points_in : (stored : List Bool) (b : List ℕ) → Answer (List (List ℤ))
points_in stored b = run (times (begun (width 1 stored) (length b)) (point 1 stored)) b
