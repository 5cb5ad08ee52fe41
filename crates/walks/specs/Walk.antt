-- A walk over a file of joined records: what a step answers and where it leads, and what it is for a walk to give a cut of the file.
use Rattle.std.specs.Prelude.{◌≡◌, cond, ℕ, zero, suc, ◌+◌, ◌≤◌, ◌<◌, ltb, length, take, get_or, Result, Ok, Err, Option, Some, None}
use mathlib.Core.List.{List, [], flatten}
use Rattle.std.specs.Borrow.{Bor}
use Rattle.formats.specs.Reader.{read_at}
use Rattle.records.specs.Record.{full_record, IsRecord, present}
use Rattle.record_reading.specs.Verdict.{verdict_from}
use Rattle.record_reading.specs.declared.Extent.{Extent}
use Rattle.walks.specs.declared.Step.{Step}
use Rattle.walks.specs.declared.Walker.{Walker}
use Rattle.record_reading.specs.declared.Extent.{Extent}
use Rattle.refusals.specs.declared.Refusal.{Refusal}

-- ---- A step

-- a step that is not a record leaves the place as it was
abbrev pub stays : Option (Result Extent Refusal) → (place : ℕ) → Step
stays f place = record { found = f; next = place }

-- by the verdict on what stands at a place: the place behind a record is the next
unfoldable pub stepped : (place : ℕ) → Result Extent Refusal → Step
stepped place (Ok extent) = record { found = Some (Ok extent); next = place + extent.length }
stepped place (Err refusal) = stays (Some (Err refusal)) place

-- a step from a place: "end" at the file's end and beyond it, and else what is read there, whose places count from the file's start
unfoldable pub step_of : (file : List ℕ) (place : ℕ) → Step
step_of file place = cond (ltb place (length file)) (stepped place (verdict_from place (read_at full_record file place))) (stays None place)

-- ---- A walk

-- where a walk from a file's start stands after k steps
unfoldable pub place_after : (file : List ℕ) (k : ℕ) → ℕ
place_after file zero = 0
place_after file (suc k) = (step_of file (place_after file k)).next

-- step k of a walk from a file's start, counted from 0
abbrev pub step_of_walk : (file : List ℕ) (k : ℕ) → Step
step_of_walk file k = step_of file (place_after file k)

-- ---- A walker

-- a walker that was made of a file stands at its start
abbrev pub at_start : Bor (List ℕ) → Walker
at_start file = record { file = file; place = 0 }

-- after its step a walker holds the same file, and its place is where the step leads
abbrev pub moved : Walker → Walker
moved w = record { file = w.file; place = (step_of w.file.now w.place).next }

-- a walker that was made of a file, after k steps
unfoldable pub walker_after : Bor (List ℕ) → (k : ℕ) → Walker
walker_after file zero = at_start file
walker_after file (suc k) = moved (walker_after file k)

-- ---- A cut

-- where record k of some joined records starts: behind all the records before it
abbrev pub start_of : List (List ℕ) → (k : ℕ) → ℕ
start_of bs k = length (flatten (take k bs))

-- a record with its own length, count of points, and whether it has extended data
abbrev pub record_of : {b : List ℕ} → IsRecord b → Option (Result Extent Refusal)
record_of {b} x = Some (Ok (record { length = length b; count = length x.value.points; extended = present x.value.extended }))

-- a walk from the file's start gives the cut bs: each record is a step, which stands where the record starts, answers it, and leads to
-- where the next starts; and the step behind the last record stands at the file's end, and answers "end"
pub record Gives (file : List ℕ) (bs : List (List ℕ)) : Type 0 where
  pub starts : (k : ℕ) → k ≤ length bs → place_after file k ≡ start_of bs k
  pub answers : (k : ℕ) → k < length bs → (x : IsRecord (get_or bs k [])) → step_of_walk file k ≡ record { found = record_of x; next = start_of bs (suc k) }
  pub ends : step_of_walk file (length bs) ≡ stays None (length file)
