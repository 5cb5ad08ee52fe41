-- What a function can say of some bytes: a record with what it holds, or a refusal by its number and its place.
use Rattle.std.specs.Prelude.{◌≡◌, Bool, List, [], ◌∷◌, ◌++◌, ℕ, zero, suc, ◌+◌, ◌≤◌, ℤ, length, Ok, Result, Err, Some}
use Rattle.refusals.specs.Table.{number_of, place_of}
use Rattle.refusals.specs.declared.Refusal.{Refusal}
use Rattle.refusals.specs.declared.Refusal.TheVariants.{Short}
use Rattle.channels.specs.declared.Place.{Place}
use Rattle.channels.specs.declared.Place.TheVariants.{Absent, Constant, Number}
use Rattle.records.specs.Record.{Record, present}
use Rattle.record_reading.specs.declared.Extent.{Extent}
use Rattle.record_reading.specs.declared.Judged.{Judged}

-- what is said of a record of n bytes: its length, its count of points, whether it has extended data, and its description
abbrev pub saying : (n : ℕ) → Record → Judged
saying n q = record { verdict = (Ok (record { length = n; count = length q.points; extended = present q.extended })); description = q.description }

-- a record of n bytes
pub record Accepts (v : Result Extent Refusal) (n : ℕ) : Type 0 where
  pub count : ℕ
  pub extended : Bool
  pub accepted : v ≡ Ok (record { length = n; count = count; extended = extended })

-- a refusal with a number, which names a place
pub record Refuses (v : Result Extent Refusal) (number place : ℕ) : Type 0 where
  pub refusal : Refusal
  pub refused : v ≡ Err refusal
  pub numbered : number_of refusal ≡ number
  pub placed : place_of refusal ≡ Some place

-- what judge may say: a record, or short, or a refusal that has a number from 2 to 8 and names a place
pub data Sayable (v : Result Extent Refusal) : Type 0 where
  a_record : (n : ℕ) → Accepts v n → Sayable v
  too_short : v ≡ Err Short → Sayable v
  refused_at : (number place : ℕ) → 2 ≤ number → number ≤ 8 → Refuses v number place → Sayable v

-- ---- The numbers of points that were handed out

-- the numbers among some places, in order
unfoldable pub numbers_in : List Place → List ℤ
numbers_in [] = []
numbers_in (Absent ∷ places) = numbers_in places
numbers_in (Constant ∷ places) = numbers_in places
numbers_in (Number v ∷ places) = v ∷ numbers_in places

-- those of `count` points, from an index on, point by point
unfoldable pub numbers_of : (points : ℕ → List Place) (count from : ℕ) → List ℤ
numbers_of points zero from = []
numbers_of points (suc count) from = numbers_in (points from) ++ numbers_of points count (from + 1)
