-- The exported function has one answer: whatever meets its promise is the same.
use Rattle.std.specs.Prelude.{◌≡◌, List, ℕ, ℤ, length}
use Rattle.formats.specs.OneAnswer.{OneAnswer, named}
use Rattle.formats.specs.Reader.{run}
use Rattle.records.specs.Record.{full_record}
use Rattle.record_columns.specs.Columns.{columns_read}
use Rattle.column_costs.specs.Handed.{Handed, handing, handed_filling}

-- of the number and the values together
pub one-filled : (s : List ℕ) (values : List ℤ) → OneAnswer (λ (h : Handed). handing h.number h.values ≡ handed_filling (columns_read (length s) (run full_record s) values))
one-filled s values = named
