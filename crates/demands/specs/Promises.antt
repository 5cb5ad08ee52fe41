-- What the functions promise of what they answer, one name for each promise, with s for the bytes that were lent.
-- `src/lib.rt` asks each function and promises it by the name that it has here: so the checker holds these names to the contracts.
use Rattle.std.specs.Prelude.{◌≡◌, Bool, List, ℕ, ℤ, length, Result, ⊤}
use Rattle.std.specs.Borrow.{Bor}
use Rattle.formats.specs.Lent.{writing}
use Rattle.formats.specs.Part.{Part}
use Rattle.formats.specs.Reader.{run, read_at}
use Rattle.channels.specs.declared.Description.{Description}
use Rattle.channels.specs.declared.Place.{Place}
use Rattle.records.specs.Record.{full_record}
use Rattle.record_reading.specs.Verdict.{verdict_from, judged, judged_whole}
use Rattle.record_points.specs.Pointing.{pointed_at, places_in}
use Rattle.record_parts.specs.Parts.{extended_place, extended_size, rest_place, rest_size}
use Rattle.record_reading.specs.declared.Extent.{Extent}
use Rattle.record_reading.specs.declared.Judged.{Judged}
use Rattle.record_writing.specs.Write.{write_of, write_columns_of}
use Rattle.refusals.specs.declared.Refusal.{Refusal}

-- ---- Reading: r is answered of the bytes s

abbrev pub judge : (s : List ℕ) → Judged → Type 0
judge s r = r ≡ judged (run full_record s)

abbrev pub verdict_at : (s : List ℕ) (start : ℕ) → Result Extent Refusal → Type 0
verdict_at s start r = r ≡ verdict_from start (read_at full_record s start)

abbrev pub judge_whole : (s : List ℕ) → Judged → Type 0
judge_whole s r = r ≡ judged_whole (length s) (run full_record s)

abbrev pub judge_point : (s : List ℕ) (index : ℕ) → Result ⊤ Refusal → Type 0
judge_point s index r = r ≡ pointed_at index (run full_record s)

abbrev pub point : (s : List ℕ) (index : ℕ) → List Place → Type 0
point s index r = r ≡ places_in index (run full_record s)

-- parts of the caller's own bytes
abbrev pub extended : (s r : Bor (List ℕ)) → Type 0
extended s r = Part s r (extended_place (run full_record s.now)) (extended_size (run full_record s.now))

abbrev pub rest : (s r : Bor (List ℕ)) → Type 0
rest s r = Part s r (rest_place (run full_record s.now)) (rest_size (length s.now) (run full_record s.now))

-- ---- Writing: r is answered, and the output that held `out` holds `after` then

abbrev pub write : Description → (count : ℕ) (values : List ℤ) (wanted : Bool) (extended out : List ℕ) → Result ℕ Refusal → (after : List ℕ) → Type 0
write d count values wanted extended out r after = writing r after ≡ write_of d count values wanted extended out

abbrev pub write_columns : Description → (count : ℕ) (values : List ℤ) (wanted : Bool) (extended out : List ℕ) → Result ℕ Refusal → (after : List ℕ) → Type 0
write_columns d count values wanted extended out r after = writing r after ≡ write_columns_of d count values wanted extended out
