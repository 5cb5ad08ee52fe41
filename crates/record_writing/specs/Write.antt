-- Writing a full record from values in either order: what keeps one from being written, stage by stage, and what becomes of the bytes that a writer is lent.
use Rattle.std.specs.Prelude.{◌≡◌, Bool, cond, not, ◌&&◌, List, [], ◌∷◌, ℕ, ◌<◌, T, ltb, leb, ℤ, length, Result, Ok, Err, ⊤}
use Rattle.std.proofs.Math.Option.{none, some}
use Rattle.formats.specs.Put.{puts}
use Rattle.formats.specs.Lent.{Writing, writing}
use Rattle.refusals.specs.Stages.{require, or_else, stages}
use Rattle.refusals.specs.declared.Quantity.TheVariants as quantity
use Rattle.refusals.specs.declared.Refusal.TheVariants.{OutOfRange, ExtendedSize, Room}
use Rattle.channels.specs.declared.Description.{Description}
use Rattle.description_judging.specs.Judging as described
use Rattle.orders.specs.Orders.{size, points_of}
use Rattle.orders.specs.declared.Order.{Order}
use Rattle.orders.specs.declared.Order.TheVariants.{Point, Column}
use Rattle.values.specs.Values as values
use Rattle.channels.specs.Descriptors.{stored}
use Rattle.channels.specs.declared.Format.TheVariants.{Full}
use Rattle.records.specs.Record.{Record, encode}
use Rattle.refusals.specs.declared.Refusal.{Refusal}

-- the record that a writer is asked for: numbers in stored order, point by point or column by column; extended data only where they are wanted
unfoldable pub record_in : Order → Description → (count : ℕ) (numbers : List ℤ) (wanted : Bool) (extended : List ℕ) → Record
record_in order d count numbers wanted extended =
    record { description = d; points = points_of order count (size (stored d)) numbers; extended = cond wanted (some extended) none }

-- three bytes hold the count, and two the length of extended data that are wanted
abbrev pub count_fits : (count : ℕ) → Bool
count_fits count = not (ltb 16777215 count)

abbrev pub count_stage : (count : ℕ) → Result ⊤ Refusal
count_stage count = require (count_fits count) (OutOfRange quantity.Count)

abbrev pub extended_stage : (wanted : Bool) (extended : List ℕ) → Result ⊤ Refusal
extended_stage wanted extended = require (not (wanted && ltb 65535 (length extended))) ExtendedSize

-- the stages behind the description's, in their order: the count, the amount of numbers and the numbers, the extended data
unfoldable pub numbers_judged : Order → (stored : List Bool) (count : ℕ) (numbers : List ℤ) (wanted : Bool) (extended : List ℕ) → Result ⊤ Refusal
numbers_judged order stored count numbers wanted extended =
    stages (count_stage count ∷ values.judgement_of 2 stored order count numbers ∷ extended_stage wanted extended ∷ [])

-- the description's own stages come first
unfoldable pub judgement_in : Order → Description → (count : ℕ) (numbers : List ℤ) (wanted : Bool) (extended : List ℕ) → Result ⊤ Refusal
judgement_in order d count numbers wanted extended = or_else (described.judgement_of Full d) (numbers_judged order (stored d) count numbers wanted extended)

-- the bytes of a record that passes are put at the start where there is room for them; else the output stays as it was
unfoldable pub put_where : (bytes out : List ℕ) → Result ⊤ Refusal → Writing (Result ℕ Refusal)
put_where bytes out (Ok _) = cond (leb (length bytes) (length out)) (writing (Ok (length bytes)) (puts out 0 bytes)) (writing (Err Room) out)
put_where bytes out (Err refusal) = writing (Err refusal) out

unfoldable pub write_in : Order → Description → (count : ℕ) (numbers : List ℤ) (wanted : Bool) (extended : List ℕ) (out : List ℕ) → Writing (Result ℕ Refusal)
write_in order d count numbers wanted extended out = put_where (encode (record_in order d count numbers wanted extended)) out (judgement_in order d count numbers wanted extended)

-- ---- The two writers: from values point by point, and column by column

abbrev pub write_of : Description → (count : ℕ) (numbers : List ℤ) (wanted : Bool) (extended : List ℕ) (out : List ℕ) → Writing (Result ℕ Refusal)
write_of d count numbers wanted extended out = write_in Point d count numbers wanted extended out

abbrev pub write_columns_of : Description → (count : ℕ) (numbers : List ℤ) (wanted : Bool) (extended : List ℕ) (out : List ℕ) → Writing (Result ℕ Refusal)
write_columns_of d count numbers wanted extended out = write_in Column d count numbers wanted extended out

-- ---- What holds of a record that passed the stages behind the description's, and of one that passed every stage but the room

pub record NumbersPass (order : Order) (stored : List Bool) (count : ℕ) (numbers : List ℤ) (wanted : Bool) (extended : List ℕ) : Type 0 where
  pub counted : count < 16777216
  pub fitting : values.judgement_of 2 stored order count numbers ≡ Ok tt
  pub small : T wanted → length extended < 65536

pub record Passes (order : Order) (d : Description) (count : ℕ) (numbers : List ℤ) (wanted : Bool) (extended : List ℕ) : Type 0 where
  pub described : described.judgement_of Full d ≡ Ok tt
  pub numbered : NumbersPass order (stored d) count numbers wanted extended
