-- A record written from the same values in either order (request L9): what is claimed of it.
use Rattle.std.specs.Prelude.{◌≡◌, Bool, List, ℕ, ℤ, length, Result, Ok, Err}
use Rattle.formats.specs.Lent.{Writing}
use Rattle.channels.specs.declared.Description.{Description}
use Rattle.orders.specs.Orders.{size, Same}
use Rattle.values.specs.BothOrders.{SameRefusal}
use Rattle.channels.specs.Descriptors.{stored}
use Rattle.record_writing.specs.Write.{write_of, write_columns_of}
use Rattle.refusals.specs.declared.Refusal.{Refusal}

-- the same answer, but for the index that 12 names: one number, by the index that it has in each order
abbrev pub SameAnswer : (count k : ℕ) (rows columns : Result ℕ Refusal) → Type 0
SameAnswer count k (Ok n) (Ok m) = n ≡ m
SameAnswer count k (Ok n) (Err refusal) = ⊥
SameAnswer count k (Err refusal) (Ok m) = ⊥
SameAnswer count k (Err rows) (Err columns) = SameRefusal count k rows columns

-- and equal bytes
pub record SameWriting (count k : ℕ) (rows columns : Writing (Result ℕ Refusal)) : Type 0 where
  pub answer : SameAnswer count k rows.answer columns.answer
  pub bytes : rows.bytes ≡ columns.bytes

-- as many values, the same in point order and by column, are written the same
abbrev pub WritesTheSame : Type 0
WritesTheSame =
    (d : Description) (count : ℕ) (rows columns : List ℤ) (wanted : Bool) (extended out : List ℕ)
    → length rows ≡ length columns → Same count (size (stored d)) rows columns
    → SameWriting count (size (stored d)) (write_of d count rows wanted extended out) (write_columns_of d count columns wanted extended out)
