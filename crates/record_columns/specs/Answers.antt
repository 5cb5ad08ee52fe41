-- The public function has one answer: whatever meets its promise is the same.
use Rattle.std.specs.Prelude.{◌≡◌, List, ℕ, ℤ, length}
use Rattle.formats.specs.OneAnswer.{OneAnswer, named}
use Rattle.formats.specs.Reader.{run}
use Rattle.records.specs.Record.{full_record}
use Rattle.record_columns.specs.Columns.{Filling, filling, columns_read}

-- of the answer and the numbers together
pub one-filled : (s : List ℕ) (values : List ℤ) → OneAnswer (λ (f : Filling). filling f.answer f.values ≡ columns_read (length s) (run full_record s) values)
one-filled s values = named
