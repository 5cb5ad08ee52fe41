-- Of a good record the lookup finds the point that the record holds: its front is the record's, and the ith point stands i widths behind it. Of other bytes judging answers.
use Rattle.std.specs.Prelude.{◌≡◌, refl, Bool, List, ℕ, ltb, length, Ok}
use Rattle.std.proofs.Math.Path.{sym, ap}
use Rattle.std.proofs.Common.{◌∙◌, arith, ltb-true}
use Rattle.std.proofs.Math.Bool.{true, false}
use Rattle.formats.specs.Fixed.{times-length}
use Rattle.formats.specs.Bytes.{impossible}
use Rattle.formats.specs.Reader.{Answer, ok, short, bad, run, read_at, times}
use Rattle.formats.specs.Compose.{at-start, at-bind, at_done, then_ok}
use Rattle.formats.proofs.Ends.{at-within}
use Rattle.formats.specs.Sight.{seen}
use Rattle.points.specs.Points.{point}
use Rattle.points.specs.Laws.{nth-point}
use Rattle.point_places.specs.Places as places
use Rattle.channels.specs.Descriptors.{stored}
use Rattle.records.specs.Record.{Record, extension, full_record}
use Rattle.record_fronts.specs.Front.{Heading, front, body, in_two}
use Rattle.record_reading.specs.Verdict.{judged, verdict_from}
use Rattle.record_points.specs.Pointing.{pointed_at, places_in}
use Rattle.lookups.specs.Lookup.{point_read, point_at, behind_front, look_up}
use Rattle.lookups.specs.Joining.{joined, joined_places, Joins, SamePoint}

module _ (s : List ℕ) {r : Record} {end : ℕ} (e : run full_record s ≡ ok r end) where
  -- the front and the body of a record
  parts : (h : Heading) × (n : ℕ) × (read_at front s 0 ≡ ok h n) × (read_at (body h) s n ≡ ok r end)
  parts = then_ok (read_at front s 0) (λ h n. read_at (body h) s n) (sym (sym (at-start full_record s) ∙ ap (λ x. read_at x s 0) in_two ∙ at-bind body front s 0) ∙ e)

  abbrev h : Heading
  h = parts.0

  abbrev n : ℕ
  n = parts.1

  abbrev flags : List Bool
  flags = stored h.description

  -- its points
  its-points : (m : ℕ) × (read_at (times h.count (point 2 flags)) s n ≡ ok r.points m) × (h.description ≡ r.description)
  unfolding body
  its-points =
      let x = then_ok (read_at (times h.count (point 2 flags)) s n) _ (sym (at-bind _ (times h.count (point 2 flags)) s n) ∙ parts.3) in
      let y = then_ok (read_at (extension h.announced) s x.1) _ (sym (at-bind _ (extension h.announced) s x.1) ∙ x.3) in
      let z = sym (at_done _ s y.1) ∙ y.3 in
      let p : record { description = h.description; points = x.0; extended = y.0 } ≡ r = cc in
      (x.1, x.2 ∙ ap (λ v. ok v x.1) (ap (λ v. v.points) p), ap (λ v. v.description) p)

  counted : length r.points ≡ h.count
  counted = times-length (point 2 flags) s h.count n its-points.1

  -- the one that is asked for, by the count
  abbrev Finds : ℕ → Answer Heading → Type 0
  Finds index x =
      ((behind_front s index (length (seen front s 0)) x).pointed ≡ pointed_at index (ok r end)) × ((behind_front s index (length (seen front s 0)) x).places ≡ places_in index (ok r end))

  by_count : (index : ℕ) (t : Bool) → ltb index h.count ≡ t → Finds index (ok h n)
  unfolding behind_front point_at point_read pointed_at places_in places.places_in
  by_count index true q =
      let w = (at-within front s 0 parts.2 (omega arith)).1 in
      let p = nth-point 2 flags s h.count n r.points its-points.0 w its-points.1 index (ltb-true index h.count q) in
      rw (counted, q, p, its-points.2) (refl, refl)
  by_count index false q = rw (counted, q) (refl, refl)

  found : (index : ℕ) → ((look_up s index).pointed ≡ pointed_at index (run full_record s)) × ((look_up s index).places ≡ places_in index (run full_record s))
  unfolding look_up
  found index = rw (e, parts.2) (by_count index (ltb index h.count) refl)

-- ---- The claims

pub joins : Joins
unfolding verdict_from pointed_at places_in
joins s index = let x = go (run full_record s) refl in record { answer = x.0; places = x.1 }
  where
    go : (x : Answer Record) → run full_record s ≡ x
        → (pointed_at index x ≡ joined (judged x).verdict (look_up s index)) × (places_in index x ≡ joined_places (judged x).verdict (look_up s index))
    go (ok r end) e = let f = found s e index in (sym (f.0 ∙ ap (pointed_at index) e), sym (f.1 ∙ ap (places_in index) e))
    go short e = (refl, refl)
    go (bad k p) e = (refl, refl)

pub same_point : SamePoint
unfolding verdict_from
same_point s index length count extended = go (run full_record s) refl
  where
    go : (x : Answer Record) → run full_record s ≡ x → (judged x).verdict ≡ Ok (record { length = length; count = count; extended = extended })
        → ((look_up s index).pointed ≡ pointed_at index (run full_record s)) × ((look_up s index).places ≡ places_in index (run full_record s))
    go (ok r end) e g = found s e index
    go short e g = impossible (cc)
    go (bad k p) e g = impossible (cc)
