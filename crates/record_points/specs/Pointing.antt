-- Whether a record has a point of some index, and what it says, by what reading some bytes answers.
use Rattle.std.specs.Prelude.{cond, List, [], ℕ, ltb, length, get_or, Result, Ok, Err, ⊤}
use Rattle.formats.specs.Reader.{Answer, ok, short, bad}
use Rattle.formats.specs.declared.Failure.TheVariants.{Short, Bad}
use Rattle.refusals.specs.Table.{refusal_of}
use Rattle.refusals.specs.declared.Refusal.TheVariants.{NoPoint}
use Rattle.channels.specs.declared.Place.{Place}
use Rattle.point_places.specs.Places.{places_of, nowhere}
use Rattle.channels.specs.Descriptors.{included, stored}
use Rattle.records.specs.Record.{Record}
use Rattle.refusals.specs.declared.Refusal.{Refusal}

-- whether there is a point of this index: the front is judged first
unfoldable pub pointed_at : (index : ℕ) → Answer Record → Result ⊤ Refusal
pointed_at index (ok r n) = cond (ltb index (length r.points)) (Ok tt) (Err NoPoint)
pointed_at index short = Err (refusal_of Short)
pointed_at index (bad k p) = Err (refusal_of (Bad k p))

-- its sixteen places, all absent where there is no such point
unfoldable pub places_in : (index : ℕ) → Answer Record → List Place
places_in index (ok r n) = cond (ltb index (length r.points)) (places_of (included r.description) (stored r.description) (get_or r.points index [])) nowhere
places_in index short = nowhere
places_in index (bad k p) = nowhere
