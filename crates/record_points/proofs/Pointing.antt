-- What is said of a point of a record, by its layout: points of one width stand at even distances behind the front.
use Rattle.std.specs.Prelude.{Ok, Err}
use mathlib.Core.Path.{◌≡◌, refl, sym, ap, ap₂, ◌∙◌}
use mathlib.Core.List.{List}
use Prim.Native.Nat.{ℕ, ◌+◌, ◌-◌, ◌*◌, ◌/◌, ◌≤◌, ◌<◌}
use native.Mathlib.Nat.{mul_comm, mul-le-mul_right, mul-div_cancel}
use native.Mathlib.Omega.{arith}
use lib.ListN.{length}
use borrow.Author.Tests.{lt-ltb, le-ltb}
use Rattle.formats.specs.Reader.{ok, run, read_at}
use Rattle.formats.proofs.FixedLaws.{fixed-times}
use Rattle.formats.specs.Told.{failed}
use Rattle.formats.specs.declared.Failure.{Failure}
use Rattle.formats.specs.declared.Failure.TheVariants.{Short, Bad}
use Rattle.refusals.specs.Table.{refusal_of}
use Rattle.refusals.specs.declared.Refusal.TheVariants.{NoPoint}
use Rattle.channels.specs.declared.Description.{Description}
use Rattle.points.specs.Points.{point, width}
use Rattle.point_places.specs.Places as places
use Rattle.point_places.specs.Places.{nowhere}
use Rattle.points.specs.Laws.{fixed-point, nth-point}
use Rattle.channels.specs.Descriptors.{included, stored}
use Rattle.records.specs.Record.{Record, full_record}
use Rattle.record_fronts.specs.Front.{front}
use Rattle.record_fronts.specs.Fronted.{fronted}
use Rattle.record_layouts.specs.Layout.{layout_at}
use Rattle.record_layouts.specs.LayoutLaws.{Lying, record-read, record-behind, failed-read}
use Rattle.record_points.specs.Pointing.{pointed_at, places_in}
use Rattle.record_fronts.specs.declared.Front.{Front}
use Rattle.record_layouts.specs.declared.Layout.{Layout}

-- ---- A failure, as each answers it

pointed-of-failed : (index : ℕ) (f : Failure) → Err (refusal_of f) ≡ pointed_at index (failed f)
unfolding pointed_at
pointed-of-failed index Short = refl
pointed-of-failed index (Bad k p) = refl

places-of-failed : (index : ℕ) (f : Failure) → nowhere ≡ places_in index (failed f)
unfolding places_in
places-of-failed index Short = refl
places-of-failed index (Bad k p) = refl

module _ (s : List ℕ) where
  -- ---- No record

  module _ {f : Failure} (e : layout_at s 0 ≡ Err f) (index : ℕ) where
    pub pointed-failed : Err (refusal_of f) ≡ pointed_at index (run full_record s)
    pointed-failed = pointed-of-failed index f ∙ sym (ap (pointed_at index) (failed-read s e))

    pub places-failed : nowhere ≡ places_in index (run full_record s)
    places-failed = places-of-failed index f ∙ sym (ap (places_in index) (failed-read s e))

  -- ---- A record

  module _ {l : Layout} (e : layout_at s 0 ≡ Ok l) where
    abbrev found : Record
    found = (record-read s e).0

    counts : length found.points ≡ l.count
    counts = (record-read s e).4.count

    pub pointed-there : (index : ℕ) → index < l.count → Ok tt ≡ pointed_at index (run full_record s)
    unfolding pointed_at
    pointed-there index h = rw ((record-read s e).1, lt-ltb index (length found.points) (omega (arith, counts)))

    pub pointed-none : (index : ℕ) → l.count ≤ index → Err NoPoint ≡ pointed_at index (run full_record s)
    unfolding pointed_at
    pointed-none index h = rw ((record-read s e).1, le-ltb index (length found.points) (omega (arith, counts)))

    pub places-none : (index : ℕ) → l.count ≤ index → nowhere ≡ places_in index (run full_record s)
    unfolding places_in
    places-none index h = rw ((record-read s e).1, le-ltb index (length found.points) (omega (arith, counts)))

    -- behind its front
    module _ {f : Front} (q : fronted (read_at front s 0) ≡ Ok f) (index : ℕ) (h : index < l.count) where
      abbrev whole : Record
      whole = (record-behind s e q).0

      read : run full_record s ≡ ok whole l.end
      read = (record-behind s e q).1

      lying : Lying s f l whole
      lying = (record-behind s e q).2

      abbrev d : Description
      d = whole.description

      by_flags : places.places_in (included d) (stored d) (read_at (point 2 (stored d)) s (f.points + index * width 2 (stored d))) ≡ places_in index (run full_record s)
      unfolding places_in places.places_in
      by_flags =
          ap (places.places_in (included d) (stored d)) (nth-point 2 (stored d) s l.count f.points whole.points l.extension lying.within lying.points index h)
          ∙ sym (rw (read, lt-ltb index (length whole.points) (omega (arith, lying.count))) refl)

      -- it is read by the flags of the front, and lies in the bytes
      there : places.places_in f.included f.stored (read_at (point 2 f.stored) s (f.points + index * width 2 f.stored)) ≡ places_in index (run full_record s)
      there = ap₂ (λ a b. places.places_in a b (read_at (point 2 b) s (f.points + index * width 2 b))) lying.includes lying.stores ∙ by_flags

      -- all have one width, which is their share of the bytes
      shared : (f.points ≤ l.extension) × (l.extension - f.points ≡ l.count * width 2 f.stored)
      shared =
          let z = fixed-times (point 2 (stored d)) (width 2 (stored d)) (fixed-point 2 (stored d)) l.count s f.points whole.points l.extension lying.within lying.points in
          rw lying.stores (omega (arith, z), omega (arith, z))

      share : (l.extension - f.points) / l.count ≡ width 2 f.stored
      share =
          let z : l.extension - f.points ≡ width 2 f.stored * l.count = shared.1 ∙ mul_comm l.count (width 2 f.stored) in
          ap (λ n. n / l.count) z ∙ mul-div_cancel (width 2 f.stored) (omega arith)

      pub points-start : f.points ≤ l.extension
      points-start = shared.0

      pub point-within : f.points + index * ((l.extension - f.points) / l.count) ≤ length s
      point-within =
          rw share
          (omega (arith, shared.0, shared.1, mul-le-mul_right {m = index} {n = l.count} (width 2 f.stored) (omega arith), lying.extended-within))

      pub places-there : places.places_in f.included f.stored (read_at (point 2 f.stored) s (f.points + index * ((l.extension - f.points) / l.count))) ≡ places_in index (run full_record s)
      places-there = rw share there
