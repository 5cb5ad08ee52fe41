-- Where reading a word ends.
use Rattle.std.specs.Prelude.{List, ℕ}
use Rattle.words.specs.Places.{Word}

-- the first word from a place on ends at another
pub record Ahead (line : List ℕ) (at behind : ℕ) : Type 0 where
  pub from : ℕ
  pub word : Word line 32 at from behind
