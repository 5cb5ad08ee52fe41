-- Reading and writing together, said of what the functions answer: what `write` wrote is read back, and what reading handed out is written as it stood.
use Rattle.std.specs.Prelude.{◌≡◌, refl, Bool, cond, List, [], ◌++◌, ℕ, ◌*◌, ◌≤◌, ◌<◌, ℤ, length, take, drop, Ok, Result, Err, ⊤}
use Rattle.std.proofs.Common.{sym, ◌∙◌, arith, length-append, length-take-le, take_at, drop_at}
use Rattle.std.proofs.Math.Path.{ap}
use Rattle.std.specs.Borrow.{Bor}
use Rattle.formats.specs.Bytes.{Bytes}
use Rattle.formats.proofs.Lawful.{reads-take}
use Rattle.formats.specs.Reader.{ok, run}
use Rattle.refusals.specs.declared.Refusal.TheVariants.{NoPoint}
use Rattle.channels.specs.declared.Description.{Description}
use Rattle.channels.specs.declared.Place.{Place}
use Rattle.point_places.specs.Places.{places_of, nowhere}
use Rattle.orders.specs.Orders.{size, points_of, values_of}
use Rattle.orders.proofs.OrderLaws.{points-many}
use Rattle.orders.specs.declared.Order.TheVariants.{Point}
use Rattle.values.proofs.ValueLaws.{fits-valid, valid-sizes}
use Rattle.channels.specs.Descriptors.{included, stored}
use Rattle.records.specs.Record.{Record, full_record, encode, IsRecord}
use Rattle.record_reading.specs.Verdict.{judged, judged_whole}
use Rattle.record_reading.specs.declared.Judged.{Judged}
use Rattle.record_writing.specs.Write.{record_in, write_of}
use Rattle.record_writing.proofs.WriteLaws.{passes-valid}
use Rattle.record_writing.proofs.RoundTrips as trips
use Rattle.record_writing.proofs.RoundTrips.{Wrote}
use Rattle.demands.specs.Promises as promises
use Rattle.demands.specs.Saying.{numbers_of}
use Rattle.demands.specs.JudgingLaws.{read-judged, whole-fits}
use Rattle.demands.specs.Reading.{rest-told, point-said, point-told, no-point-said, no-point-told}
use Rattle.demands.specs.ReadingLaws.{extended-handed, numbers-at}
use Rattle.demands.specs.RoundTripLaws.{extended-given, meant, in_a_row}
use Rattle.refusals.specs.declared.Refusal.{Refusal}

-- ---- Written, and read again

-- write answered a record of n bytes, and s is the output, as reading is lent it. A description always has sixteen channels, and what is lent as extended data are bytes.
module _ (d : Description) (sixteen : length d.channels ≡ 16) (count : ℕ) (values : List ℤ) (wanted : Bool) (extended : List ℕ) (lent : Bytes extended) (out : List ℕ)
    (n : ℕ) (s : Bor (List ℕ)) (wrote : promises.write d count values wanted extended out (Ok n) s.now) where
  abbrev asked : Record
  asked = record_in Point d count values wanted extended

  told : Wrote Point d count values wanted extended out n s.now
  told = trips.wrote Point d count values wanted extended out (sym wrote)

  within : n ≤ length s.now
  within = rw told.holds (omega (arith, told.size, length-append (encode asked) (drop n out)))

  abbrev the-record : IsRecord (take n s.now)
  the-record = record {
    value = asked;
    valid = passes-valid Point d count values wanted extended told.passes sixteen lent;
    written = ap (take n) told.holds ∙ take_at (encode asked) (drop n out) n (sym told.size);
  }

  -- the first n bytes of the output are a record
  pub written-record : IsRecord (take n s.now)
  written-record = the-record

  -- judge says the length that write answered, and the count, the description and the presence of extended data that were given
  pub written-judged : (r : Judged) → promises.judge s.now r → r ≡ record { verdict = (Ok (record { length = n; count = count; extended = wanted })); description = d }
  written-judged r answers = answers ∙ trips.written-judged Point d count values wanted extended out sixteen lent (sym wrote)

  -- and so does judge_whole, of the record alone
  pub written-judged-whole : (r : Judged) → promises.judge_whole (take n s.now) r → r ≡ record { verdict = (Ok (record { length = n; count = count; extended = wanted })); description = d }
  written-judged-whole r answers =
      let read = trips.written_read Point d count values wanted extended out sixteen lent (sym wrote) in
      let size : length (take n s.now) ≡ n = length-take-le n s.now within in
      let alone : run full_record (take n s.now) ≡ ok asked n = reads-take full_record s.now read ∙ ap (ok asked) size in
      answers
      ∙ ap (judged_whole (length (take n s.now))) alone
      ∙ whole-fits (length (take n s.now)) asked n (omega (arith, size))
      ∙ sym (read-judged (run full_record s.now) asked n read)
      ∙ written-judged (judged (run full_record s.now)) refl

  -- of each index below the count judge_point says that there is a point, and point hands out the numbers of it that were given, in their places
  module _ (index : ℕ) (inside : index < count) where
    amid : index < length asked.points
    unfolding record_in
    amid = rw (points-many Point count (size (stored d)) values) inside

    pub written-point-said : (r : Result ⊤ Refusal) → promises.judge_point s.now index r → r ≡ Ok tt
    written-point-said r answers = point-said s n within the-record index amid r answers

    pub written-point-told : (r : List Place) → promises.point s.now index r
        → r ≡ places_of (included d) (stored d) (take (size (stored d)) (drop (index * size (stored d)) values))
    unfolding record_in
    written-point-told r answers =
        let fit = fits-valid 2 (stored d) Point count values told.passes.numbered.fitting in
        point-told s n within the-record index amid r answers
        ∙ ap (places_of (included d) (stored d)) (numbers-at count (size (stored d)) values fit.0 (valid-sizes 2 (stored d) (points_of Point count (size (stored d)) values) fit.1) index inside)

  -- of every other index judge_point says 10, and point hands out sixteen absent places
  module _ (index : ℕ) (outside : count ≤ index) where
    behind : length asked.points ≤ index
    unfolding record_in
    behind = rw (points-many Point count (size (stored d)) values) outside

    pub written-no-point-said : (r : Result ⊤ Refusal) → promises.judge_point s.now index r → r ≡ Err NoPoint
    written-no-point-said r answers = no-point-said s n within the-record index behind r answers

    pub written-no-point-told : (r : List Place) → promises.point s.now index r → r ≡ nowhere
    written-no-point-told r answers = no-point-told s n within the-record index behind r answers

  -- extended hands out the extended data that were given where they were wanted, and no byte where they were not
  pub written-extended-told : (r : Bor (List ℕ)) → promises.extended s r → r.now ≡ cond wanted extended []
  unfolding record_in
  written-extended-told r part = extended-handed s n within the-record r part ∙ extended-given wanted extended

  -- rest hands out what the output held behind the record
  pub written-rest-told : (r : Bor (List ℕ)) → promises.rest s r → r.now ≡ drop n out
  written-rest-told r part = rest-told s n within the-record r part ∙ ap (drop n) told.holds ∙ drop_at (encode asked) (drop n out) n (sym told.size)

-- ---- Read, and written again

-- judge said a record of n bytes; point handed out the points that it counts, and extended a part of the bytes
module _ (s : Bor (List ℕ)) (bytes : Bytes s.now)
    (r : Judged) (judges : promises.judge s.now r) (n count : ℕ) (wanted : Bool) (said : r.verdict ≡ Ok (record { length = n; count = count; extended = wanted }))
    (points : ℕ → List Place) (pointed : (index : ℕ) → index < count → promises.point s.now index (points index))
    (extended : Bor (List ℕ)) (handed : promises.extended s extended) where
  -- write then answers the same length where there is room, and the output holds the bytes that were read, before what it held behind them
  pub read-written : (out : List ℕ) → n ≤ length out → (answer : Result ℕ Refusal) (after : List ℕ)
      → promises.write r.description count (numbers_of points count 0) wanted extended.now out answer after
      → (answer ≡ Ok n) × (after ≡ take n s.now ++ drop n out)
  unfolding values_of
  read-written out room answer after writes =
      let x = meant s.now bytes r judges n count wanted said in
      let row = ap (λ k. numbers_of points k 0) x.counted ∙ in_a_row s n x.within x.bytes points (λ i h. pointed i (omega (arith, x.counted, h))) in
      let part = extended-handed s n x.within x.bytes extended handed in
      let same = writes ∙ (λ i. write_of (x.described i) (x.counted i) (row i) (x.presence i) (part i) out) ∙ trips.read-written Point s.now bytes x.bytes.value n x.read out room in
      (ap (λ w. w.answer) same, ap (λ w. w.bytes) same)
