-- Each public function has one answer: whatever meets its promise is the same.
use Rattle.std.specs.Prelude.{◌≡◌, Bool, List, ℕ, ℤ, Result}
use Rattle.formats.specs.OneAnswer.{OneAnswer, named}
use Rattle.formats.specs.Lent.{Writing, writing}
use Rattle.channels.specs.declared.Description.{Description}
use Rattle.record_writing.specs.Write.{write_of, write_columns_of}
use Rattle.refusals.specs.declared.Refusal.{Refusal}

-- a writer's answer and the later content of the output, together
module _ (d : Description) (count : ℕ) (values : List ℤ) (wanted : Bool) (extended out : List ℕ) where
  pub one_written : OneAnswer (λ (w : Writing (Result ℕ Refusal)). writing w.answer w.bytes ≡ write_of d count values wanted extended out)
  one_written = named

  pub one-written-columns : OneAnswer (λ (w : Writing (Result ℕ Refusal)). writing w.answer w.bytes ≡ write_columns_of d count values wanted extended out)
  one-written-columns = named
