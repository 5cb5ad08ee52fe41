-- A sample point looked up by itself: the front of the record is read, and of its points the one that is asked for, at its own place.
-- No other point is, nor the extended data, nor what follows the record. The bytes that are looked at are counted on the way.
use Rattle.std.specs.Prelude.{Bool, cond, List, ℕ, ◌+◌, ◌*◌, ltb, ℤ, length, Result, Ok, Err, ⊤}
use Rattle.formats.specs.Reader.{Answer, ok, short, bad, read_at}
use Rattle.formats.specs.Sight.{seen}
use Rattle.formats.specs.declared.Failure.TheVariants.{Short, Bad}
use Rattle.refusals.specs.Table.{refusal_of}
use Rattle.refusals.specs.declared.Refusal.{Refusal}
use Rattle.refusals.specs.declared.Refusal.TheVariants.{NoPoint}
use Rattle.channels.specs.declared.Place.{Place}
use Rattle.points.specs.Points.{point, width}
use Rattle.point_places.specs.Places.{nowhere, places_in}
use Rattle.channels.specs.Descriptors.{included, stored}
use Rattle.record_fronts.specs.Front.{Heading, front}
use Rattle.lookups.specs.declared.Lookup.{Lookup}

-- what is found: whether there is such a point, its sixteen places, and how many bytes were looked at
pub record Found : Type 0 where
  pub pointed : Result ⊤ Refusal
  pub places : List Place
  pub looked : ℕ

-- no point: its places are all absent
abbrev pub refused : Refusal → (looked : ℕ) → Found
refused r looked = record { pointed = Err r; places = nowhere; looked = looked }

-- whether a point was read
unfoldable pub point_read : Answer (List ℤ) → Result ⊤ Refusal
point_read (ok v n) = Ok tt
point_read short = Err (refusal_of Short)
point_read (bad k p) = Err (refusal_of (Bad k p))

-- where the point of some index begins, of points that these channels are stored in and of which the first begins at a place
abbrev pub start_of : (stored : List Bool) → (points index : ℕ) → ℕ
start_of stored points index = points + index * width 2 stored

-- the point that stands at a place, where `looked` bytes were looked at before
unfoldable pub point_at : List ℕ → (included stored : List Bool) → (looked start : ℕ) → Found
point_at s included stored looked start = record {
  pointed = point_read (read_at (point 2 stored) s start);
  places = places_in included stored (read_at (point 2 stored) s start);
  looked = looked + length (seen (point 2 stored) s start);
}

-- behind a front that was read, the count decides whether there is such a point
unfoldable pub behind_front : List ℕ → (index looked : ℕ) → Answer Heading → Found
behind_front s index looked (ok h points) =
    cond (ltb index h.count)
    (point_at s (included h.description) (stored h.description) looked (start_of (stored h.description) points index))
    (refused NoPoint looked)
behind_front s index looked short = refused (refusal_of Short) looked
behind_front s index looked (bad k p) = refused (refusal_of (Bad k p)) looked

-- the lookup
unfoldable pub look_up : List ℕ → (index : ℕ) → Found
look_up s index = behind_front s index (length (seen front s 0)) (read_at front s 0)

-- what is answered beside the places
abbrev pub answered : Found → Lookup
answered f = record { pointed = f.pointed; looked = f.looked }
