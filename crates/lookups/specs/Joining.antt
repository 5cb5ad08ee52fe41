-- Document 01's request for a point is the two joined (request L7): the front is judged, and then the point is looked up.
use Rattle.std.specs.Prelude.{◌≡◌, Bool, List, ℕ, Ok, Result, Err, ⊤}
use Rattle.formats.specs.Reader.{run}
use Rattle.channels.specs.declared.Place.{Place}
use Rattle.point_places.specs.Places.{nowhere}
use Rattle.records.specs.Record.{full_record}
use Rattle.record_reading.specs.Verdict.{judged}
use Rattle.record_reading.specs.declared.Extent.{Extent}
use Rattle.record_points.specs.Pointing.{pointed_at, places_in}
use Rattle.lookups.specs.Lookup.{Found, look_up}
use Rattle.refusals.specs.declared.Refusal.{Refusal}

-- a record is judged: where it is refused that refuses the point too, else the lookup answers
abbrev pub joined : Result Extent Refusal → Found → Result ⊤ Refusal
joined (Ok extent) found = found.pointed
joined (Err refusal) found = Err refusal

abbrev pub joined_places : Result Extent Refusal → Found → List Place
joined_places (Ok extent) found = found.places
joined_places (Err refusal) found = nowhere

-- ---- The claims, of what `judge`, `look_up` and `point` here, and `judge_point` and `point` of `record_points`, answer of some bytes

-- on all bytes, the one request is the two joined
pub record IsJoined (s : List ℕ) (index : ℕ) : Type 0 where
  pub answer : pointed_at index (run full_record s) ≡ joined (judged (run full_record s)).verdict (look_up s index)
  pub places : places_in index (run full_record s) ≡ joined_places (judged (run full_record s)).verdict (look_up s index)

abbrev pub Joins : Type 0
Joins = (s : List ℕ) (index : ℕ) → IsJoined s index

-- on bytes that judge good, both give the same point
abbrev pub SamePoint : Type 0
SamePoint = (s : List ℕ) (index length count : ℕ) (extended : Bool) → (judged (run full_record s)).verdict ≡ Ok (record { length = length; count = count; extended = extended })
    → ((look_up s index).pointed ≡ pointed_at index (run full_record s)) × ((look_up s index).places ≡ places_in index (run full_record s))
