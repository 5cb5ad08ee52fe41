-- What is handed over to C, by what reading columns answers: 0 where they were filled in, else the refusal's number, and the numbers as they are then.
use Rattle.std.specs.Prelude.{List, ℕ, ℤ, Result, Ok, Err, ⊤}
use Rattle.refusals.specs.Table.{number_of}
use Rattle.record_columns.specs.Columns.{Filling}
use Rattle.refusals.specs.declared.Refusal.{Refusal}

pub record Handed : Type 0 where
  pub number : ℕ
  pub values : List ℤ

abbrev pub handing : ℕ → List ℤ → Handed
handing number values = record { number = number; values = values }

abbrev pub handed_number : Result ⊤ Refusal → ℕ
handed_number (Ok _) = 0
handed_number (Err refusal) = number_of refusal

unfoldable pub handed_filling : Filling → Handed
handed_filling f = handing (handed_number f.answer) f.values
