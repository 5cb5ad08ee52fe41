-- What request L9 asks of columns, said of what the functions answer: refusals in their order, the same numbers as in point order, and reading and writing together.
use Rattle.std.specs.Prelude.{◌≡◌, Bool, List, ◌++◌, ℕ, ◌*◌, ◌≤◌, ◌<◌, ℤ, length, take, drop, Ok, Result, Err, ⊤}
use Rattle.std.specs.Borrow.{Bor}
use Rattle.formats.specs.Bytes.{Bytes}
use Rattle.refusals.specs.declared.Refusal.{Refusal}
use Rattle.refusals.specs.declared.Refusal.TheVariants.{Amount}
use Rattle.channels.specs.declared.Description.{Description}
use Rattle.channels.specs.declared.Place.{Place}
use Rattle.orders.specs.Orders.{size, Same}
use Rattle.channels.specs.Descriptors.{stored}
use Rattle.record_reading.specs.declared.Judged.{Judged}
use Rattle.demands.specs.Promises as promises
use Rattle.demands.specs.Saying.{numbers_of}
use Rattle.record_columns.specs.Columns.{ReadColumns}

-- judge_whole said of the whole slice s that it is a record: its description, its count, and whether it has extended data
pub record Good (s : List ℕ) (d : Description) (count : ℕ) (wanted : Bool) : Type 0 where
  pub judged : Judged
  pub judges : promises.judge_whole s judged
  pub said : judged.verdict ≡ Ok (record { length = length s; count = count; extended = wanted })
  pub described : judged.description ≡ d

-- ---- The refusals in their order

-- whatever judge_whole refuses is refused the same; of a record 13 is said exactly where the amount is not its count times its stored channels; and on each the buffer is as it was
pub record InOrder (s : List ℕ) (values : List ℤ) (r : Result ⊤ Refusal) (after : List ℤ) : Type 0 where
  pub refused : (j : Judged) (refusal : Refusal) → promises.judge_whole s j → j.verdict ≡ Err refusal → (r ≡ Err refusal) × (after ≡ values)
  pub other-amount : (d : Description) (count : ℕ) (wanted : Bool) → Good s d count wanted → (length values ≡ count * size (stored d) → ⊥) → (r ≡ Err Amount) × (after ≡ values)
  pub same-amount : (d : Description) (count : ℕ) (wanted : Bool) → Good s d count wanted → length values ≡ count * size (stored d) → r ≡ Ok tt

abbrev pub RefusesInOrder : Type 0
RefusesInOrder = (s : List ℕ) (values : List ℤ) (r : Result ⊤ Refusal) (after : List ℤ) → ReadColumns s values r after → InOrder s values r after

-- ---- The same numbers

-- the columns hold the numbers that `point` hands out, which in one row are point by point: each at its two places
abbrev pub HoldsTheSame : Type 0
HoldsTheSame =
    (s : Bor (List ℕ)) → Bytes s.now → (d : Description) (count : ℕ) (wanted : Bool) → Good s.now d count wanted
    → (points : ℕ → List Place) → ((index : ℕ) → index < count → promises.point s.now index (points index))
    → (values after : List ℤ) → ReadColumns s.now values (Ok tt) after
    → (length after ≡ count * size (stored d)) × Same count (size (stored d)) (numbers_of points count 0) after

-- ---- Reading and writing together

-- what read_columns filled, write_columns writes back as the same bytes, with what judge_whole and extended say, where there is room
abbrev pub WritesBack : Type 0
WritesBack =
    (s : Bor (List ℕ)) → Bytes s.now → (d : Description) (count : ℕ) (wanted : Bool) → Good s.now d count wanted
    → (extended : Bor (List ℕ)) → promises.extended s extended
    → (values after : List ℤ) → ReadColumns s.now values (Ok tt) after
    → (out : List ℕ) → length s.now ≤ length out → (r : Result ℕ Refusal) (bytes : List ℕ) → promises.write_columns d count after wanted extended.now out r bytes
    → (r ≡ Ok (length s.now)) × (bytes ≡ s.now ++ drop (length s.now) out)

-- what write_columns wrote, read_columns fills in again, in as many numbers. A description always has sixteen channels, and what is lent as extended data are bytes.
abbrev pub ReadsBack : Type 0
ReadsBack =
    (d : Description) → length d.channels ≡ 16 → (count : ℕ) (values : List ℤ) (wanted : Bool) (extended : List ℕ) → Bytes extended
    → (out : List ℕ) (n : ℕ) (bytes : List ℕ) → promises.write_columns d count values wanted extended out (Ok n) bytes
    → (lent : List ℤ) → length lent ≡ length values → (r : Result ⊤ Refusal) (after : List ℤ) → ReadColumns (take n bytes) lent r after
    → (r ≡ Ok tt) × (after ≡ values)
