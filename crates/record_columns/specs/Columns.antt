-- The columns of a record that is a whole slice, and what becomes of a buffer that is lent for them.
use Rattle.std.specs.Prelude.{◌≡◌, cond, List, ℕ, ◌*◌, eqb, ltb, ℤ, length, Result, Ok, Err, ⊤}
use Rattle.formats.specs.Reader.{Answer, ok, short, bad, run}
use Rattle.formats.specs.declared.Failure.TheVariants.{Short, Bad}
use Rattle.refusals.specs.Table.{refusal_of}
use Rattle.refusals.specs.declared.Refusal.TheVariants.{LeftOver, Amount}
use Rattle.orders.specs.Orders.{size, values_of}
use Rattle.orders.specs.declared.Order.TheVariants.{Column}
use Rattle.channels.specs.Descriptors.{stored}
use Rattle.records.specs.Record.{Record, full_record}
use Rattle.refusals.specs.declared.Refusal.{Refusal}

-- what code does that was lent numbers to write in: an answer, and what they are afterwards
pub record Filling : Type 0 where
  pub answer : Result ⊤ Refusal
  pub values : List ℤ

abbrev pub filling : Result ⊤ Refusal → List ℤ → Filling
filling answer values = record { answer = answer; values = values }

-- how many numbers a record's points hold: its count times its stored channels
abbrev pub amount : Record → ℕ
amount r = length r.points * size (stored r.description)

-- its columns, one after the other
abbrev pub columns : Record → List ℤ
columns r = values_of Column (size (stored r.description)) r.points

-- by what reading a slice of `bytes` bytes answers: the slice's own refusals, then 13, and on each the buffer is as it was
unfoldable pub columns_read : (bytes : ℕ) → Answer Record → (values : List ℤ) → Filling
columns_read bytes (ok r n) values =
    cond (ltb n bytes) (filling (Err (LeftOver n)) values) (cond (eqb (length values) (amount r)) (filling (Ok tt) (columns r)) (filling (Err Amount) values))
columns_read bytes short values = filling (Err (refusal_of Short)) values
columns_read bytes (bad k p) values = filling (Err (refusal_of (Bad k p))) values

-- what is promised of the bytes s: r is answered, and the buffer that held `values` holds `after` then
abbrev pub ReadColumns : (s : List ℕ) (values : List ℤ) → Result ⊤ Refusal → (after : List ℤ) → Type 0
ReadColumns s values r after = filling r after ≡ columns_read (length s) (run full_record s) values
