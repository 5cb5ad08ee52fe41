-- What code does that was lent bytes to write in: an answer, and what the lent bytes hold afterwards.
use Rattle.std.specs.Prelude.{List, ℕ}

pub record Writing (Answer : Type 0) : Type 0 where
  pub answer : Answer
  pub bytes : List ℕ

abbrev pub writing : {Answer : Type 0} → Answer → List ℕ → Writing Answer
writing answer bytes = record { answer = answer; bytes = bytes }
