-- What a line says at a place: a number, and where its word ends.
use Rattle.std.specs.Prelude.{◌≡◌, List, ℕ, ℤ}
use Rattle.words.specs.Places.{Word}
use Rattle.words.specs.Names.{between}
use Rattle.numerals.specs.Decimal.{whole}

-- the first word from a place on ends at another, and says the number
pub record Told (line : List ℕ) (at : ℕ) (value : ℤ) (behind : ℕ) : Type 0 where
  pub from : ℕ
  pub stands : Word line 32 at from behind
  pub says : value ≡ whole (between line from behind)
