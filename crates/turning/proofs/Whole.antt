-- A whole slice that is a record: what its front says of it, and what becomes of the outputs, by what the stages say and by the room.
use Rattle.std.specs.Prelude.{Ok, Err, Result, ⊤}
use mathlib.Core.Path.{◌≡◌, refl, sym, ap, ap₂, ◌∙◌}
use mathlib.Core.Bool.{Bool, true, false, cond, ◌&&◌, ◌||◌, and-false}
use mathlib.Core.List.{List}
use Prim.Native.Nat.{ℕ, ◌*◌, ◌≤◌}
use native.Mathlib.Omega.{arith}
use borrow.Author.Tests.{le-leb, lt-leb, ltb-true, ltb-false}
use lib.Dec.{leb, ltb}
use lib.ListN.{length}
use Rattle.formats.specs.Bytes.{impossible}
use Rattle.formats.specs.Put.{puts}
use Rattle.formats.specs.Reader.{Answer, ok, short, bad, run, read_at, times}
use Rattle.formats.proofs.Lawful.{whole}
use Rattle.formats.specs.declared.Failure.TheVariants.{Short, Bad}
use Rattle.formats.specs.Writes.{All}
use Rattle.refusals.specs.declared.Refusal.{Refusal}
use Rattle.refusals.specs.Table.{refusal_of}
use Rattle.refusals.specs.declared.Refusal.TheVariants.{LeftOver, Room}
use Rattle.channels.specs.Descriptors.{stored}
use Rattle.points.specs.Points.{point, width, ValidPoint}
use Rattle.points.specs.Laws.{points-length}
use Rattle.orders.specs.Orders.{size, values_of}
use Rattle.orders.proofs.OrderLaws.{all-sized, points-again}
use Rattle.orders.specs.declared.Order.TheVariants.{Point}
use Rattle.values.specs.Values.{bytes_of}
use Rattle.values.proofs.ValueLaws.{fits-valid, valid-bytes}
use Rattle.channels.specs.declared.Description.{Description}
use Rattle.records.specs.Record.{Record, full_record, present}
use Rattle.record_reading.specs.Verdict.{verdict_from, description_in, judged, unjudged, judged_whole}
use Rattle.record_reading.specs.declared.Judged.{Judged}
use Rattle.record_fronts.specs.Front.{front}
use Rattle.record_fronts.specs.Fronted.{fronted}
use Rattle.record_fronts.specs.declared.Front.{Front}
use Rattle.record_layouts.specs.LayoutLaws.{Lying, read-lies, read-behind}
use Rattle.record_layouts.specs.declared.Layout.{Layout}
use Rattle.bodies.proofs.WritingLaws.{passes}
use Rattle.turning.specs.Turning.{body_bytes, body_judgement, judged_body, turning, put_both, turned, turn_of}
use Rattle.turning.proofs.Standing.{counted, ith-size}

-- such a slice has a front
pub has-front : (s : List ℕ) {r : Record} {end : ℕ} → run full_record s ≡ ok r end → (f : Front) × (fronted (read_at front s 0) ≡ Ok f)
has-front s q = ((read-lies s q).front, (read-lies s q).fronts)

module _ (s : List ℕ) (r : Record) (q : run full_record s ≡ ok r (length s)) {f : Front} (p : fronted (read_at front s 0) ≡ Ok f) where
  abbrev layout : Layout
  layout = (read-behind s q p).0

  lying : Lying s f layout r
  lying = (read-behind s q p).3

  pub front-within : f.points ≤ length s
  front-within = lying.within

  pub front-counts : f.count ≡ length r.points
  front-counts = lying.counted ∙ sym lying.count

  pub front-stores : f.stored ≡ stored r.description
  front-stores = lying.stores

  -- its points are read from there
  pub front_reads : read_at (times f.count (point 2 f.stored)) s f.points ≡ ok r.points layout.extension
  front_reads = ap₂ (λ n flags. read_at (times n (point 2 flags)) s f.points) lying.counted lying.stores ∙ lying.points

  pub front-judged : body_judgement f.stored f.count r.points f.announced ≡ judged_body r
  front-judged = rw (front-stores, front-counts, lying.announced ∙ sym lying.extension.presence)

  sizes : All (λ point. length point ≡ size f.stored) r.points
  sizes =
      let many = counted s f.points f.stored f.count r.points _ front-within front_reads in
      all-sized (size f.stored) r.points (λ i h. ith-size s f.points f.stored f.count r.points _ front-within front_reads i (omega (arith, many)))

  -- where the stages of the body are passed its points fit one byte
  module _ (passed : judged_body r ≡ Ok tt) where
    fitting : All (ValidPoint 1 (stored r.description)) r.points
    unfolding body_judgement
    fitting =
        let flags = stored r.description in
        let numbers = values_of Point (size flags) r.points in
        let x = passes flags false 0 (length r.points) numbers (present r.extended) passed in
        rw (points-again (size flags) r.points (rw front-stores at sizes) Point) at (fits-valid 1 flags Point (length r.points) numbers x.fitting).1

    pub body-long : f.count * width 1 f.stored ≡ length (body_bytes r)
    body-long = rw (front-counts, front-stores) (sym (points-length 1 (stored r.description) r.points fitting))

    pub body_bytes_lem : bytes_of 1 f.stored r.points ≡ body_bytes r
    body_bytes_lem = rw front-stores (valid-bytes 1 (stored r.description) r.points fitting)

-- ---- What becomes of the outputs

-- two tests at once, that one output or the other is too short
crowded : (a b c d : ℕ) → (ltb b a || ltb d c) ≡ true → (leb a b && leb c d) ≡ false
crowded a b c d e = go (ltb b a) (ltb d c) refl refl e
  where
    go : (t u : Bool) → ltb b a ≡ t → ltb d c ≡ u → (t || u) ≡ true → (leb a b && leb c d) ≡ false
    go true u h g q = rw (lt-leb a b (ltb-true b a h))
    go false true h g q = rw (lt-leb c d (ltb-true d c g)) (and-false (leb a b))
    go false false h g q = impossible (cc)

roomy : (a b c d : ℕ) → (ltb b a || ltb d c) ≡ false → (a ≤ b) × (c ≤ d)
roomy a b c d e = go (ltb b a) (ltb d c) refl refl e
  where
    go : (t u : Bool) → ltb b a ≡ t → ltb d c ≡ u → (t || u) ≡ false → (a ≤ b) × (c ≤ d)
    go true u h g q = impossible (cc)
    go false true h g q = impossible (cc)
    go false false h g q = (omega (arith, ltb-false b a h), omega (arith, ltb-false d c g))

module _ (described points template body : List ℕ) {j : Result ⊤ Refusal} where
  pub turn-refused : {refusal : Refusal} → j ≡ Err refusal → turning (Err refusal) template body ≡ put_both described points template body j
  unfolding put_both
  turn-refused e = rw e

  module _ (e : j ≡ Ok tt) {n : ℕ} (long : n ≡ length points) where
    pub turn-crowded : (ltb (length template) (length described) || ltb (length body) n) ≡ true → turning (Err Room) template body ≡ put_both described points template body j
    unfolding put_both
    turn-crowded h = rw (e, crowded (length described) (length template) (length points) (length body) (rw long at h))

    module _ (h : (ltb (length template) (length described) || ltb (length body) n) ≡ false) where
      pub both-room : (length described ≤ length template) × (n ≤ length body)
      both-room = roomy (length described) (length template) n (length body) h

      pub turn-done : {t b : List ℕ} → t ≡ puts template 0 described → b ≡ puts body 0 points → turning (Ok (record { template = length described; body = n })) t b ≡ put_both described points template body j
      unfolding put_both
      turn-done p q =
          let x = both-room in
          rw (e, le-leb (length described) (length template) x.0, le-leb (length points) (length body) (omega (arith, x.1)), p, q, long)

-- ---- The whole slice's own verdict

module _ (s template body : List ℕ) where
  refused-by : (x : Answer Record) {refusal : Refusal} → (judged_whole (length s) x).verdict ≡ Err refusal → turning (Err refusal) template body ≡ turn_of (length s) x template body
  unfolding judged_whole turn_of verdict_from
  refused-by (ok r n) {refusal} e = go (ltb n (length s)) e
    where
      go : (t : Bool) → (cond t (unjudged (Err (LeftOver n))) (judged (ok r n))).verdict ≡ Err refusal
          → turning (Err refusal) template body ≡ cond t (turning (Err (LeftOver n)) template body) (turned r template body)
      go true q = let z : refusal ≡ LeftOver n = cc in rw z
      go false q = impossible (cc)
  refused-by short {refusal} e = let z : refusal ≡ refusal_of Short = cc in rw z
  refused-by (bad k p) {refusal} e = let z : refusal ≡ refusal_of (Bad k p) = cc in rw z

  pub own-refused : {j : Judged} {refusal : Refusal} → j ≡ judged_whole (length s) (run full_record s) → j.verdict ≡ Err refusal
      → turning (Err refusal) template body ≡ turn_of (length s) (run full_record s) template body
  own-refused e q = refused-by (run full_record s) (sym (ap (λ j. j.verdict) e) ∙ q)

-- where it is a record it is one that fills the slice, with the description that was answered
pub record Filled (s : List ℕ) (d : Description) : Type 0 where
  pub value : Record
  pub read : run full_record s ≡ ok value (length s)
  pub said : d ≡ value.description

filled-by : (s : List ℕ) (x : Answer Record) → run full_record s ≡ x → {n k : ℕ} {t : Bool} → (judged_whole (length s) x).verdict ≡ Ok (record { length = n; count = k; extended = t }) → Filled s (judged_whole (length s) x).description
unfolding judged_whole verdict_from description_in
filled-by s (ok r m) q {n} {k} {t} e = go (ltb m (length s)) refl e
  where
    go : (u : Bool) → ltb m (length s) ≡ u → (cond u (unjudged (Err (LeftOver m))) (judged (ok r m))).verdict ≡ Ok (record { length = n; count = k; extended = t })
        → Filled s (cond u (unjudged (Err (LeftOver m))) (judged (ok r m))).description
    go true h z = impossible (cc)
    go false h z = record { value = r; read = q ∙ ap (ok r) {x = m} {y = length s} (omega (arith, ltb-false m (length s) h, (whole full_record s q).within)); said = refl }
filled-by s short q e = impossible (cc)
filled-by s (bad j p) q e = impossible (cc)

pub filled : (s : List ℕ) {j : Judged} {n k : ℕ} {t : Bool} → j ≡ judged_whole (length s) (run full_record s) → j.verdict ≡ Ok (record { length = n; count = k; extended = t }) → Filled s j.description
filled s e q = let x = filled-by s (run full_record s) refl (sym (ap (λ j. j.verdict) e) ∙ q) in record { value = x.value; read = x.read; said = ap (λ j. j.description) e ∙ x.said }
