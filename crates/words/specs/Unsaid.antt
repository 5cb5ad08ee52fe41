-- A word of a line that does not say what was wanted.
use Rattle.std.specs.Prelude.{◌≡◌, List, ℕ}
use Rattle.words.specs.declared.Reason.{Reason}
use Rattle.words.specs.declared.Unread.{Unread}
use Rattle.words.specs.Places.{Word}
use Rattle.words.specs.Names.{between}
use Rattle.words.specs.Said.{reason_of}

-- the first word from a place on could not be read: it ends at the place that is told, and that is why
pub record Unsaid (line : List ℕ) (at : ℕ) (otherwise : Reason) (unread : Unread) : Type 0 where
  pub from : ℕ
  pub place : Word line 32 at from unread.behind
  pub why : unread.reason ≡ reason_of (between line from unread.behind) otherwise
