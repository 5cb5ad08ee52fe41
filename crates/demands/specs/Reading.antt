-- What the functions of reading hand out of a record that some bytes begin with, whatever follows it: for any answer that meets the promise.
-- `judge` and `judge_whole` are in `Judging`.
use Rattle.std.specs.Prelude.{◌≡◌, List, [], ℕ, ◌-◌, ◌≤◌, ◌<◌, get_or, Result, Ok, Err, ⊤}
use Rattle.std.proofs.Common.{◌∙◌, arith, length-drop}
use Rattle.std.proofs.Math.Option.{none}
use Rattle.std.proofs.Math.Nat.{sub-zero}
use borrow.Author.Tests.{lt-ltb, le-ltb}
use Rattle.std.specs.Borrow.{Bor}
use Rattle.std.proofs.Math.ListN.{length, take, drop}
use Rattle.std.proofs.Math.Seq.{take_all}
use Rattle.formats.specs.Part.{Part}
use Rattle.formats.specs.Reader.{ok, run}
use Rattle.refusals.specs.declared.Refusal.{Refusal}
use Rattle.refusals.specs.declared.Refusal.TheVariants.{NoPoint}
use Rattle.channels.specs.declared.Place.{Place}
use Rattle.point_places.specs.Places.{places_of, nowhere}
use Rattle.channels.specs.Descriptors.{included, stored}
use Rattle.records.specs.Record.{full_record, IsRecord, extended_bytes}
use Rattle.record_points.specs.Pointing.{pointed_at, places_in}
use Rattle.record_parts.specs.Parts.{extended_place, extended_size, rest_place, rest_size}
use Rattle.record_reading.specs.declared.Judged.{Judged}
use Rattle.demands.specs.Promises as promises
use Rattle.demands.specs.JudgingLaws.{record-is-read}
use Rattle.demands.specs.ReadingLaws.{extended-handed, NothingIn, nothing-in}

-- the first n bytes of what is lent are a record
module _ (s : Bor (List ℕ)) (n : ℕ) (within : n ≤ length s.now) (x : IsRecord (take n s.now)) where
  read : run full_record s.now ≡ ok x.value n
  read = record-is-read s.now n within x

  -- ---- The parts

  -- extended hands out the extended data, and no byte where the record has none
  pub extended-told : (r : Bor (List ℕ)) → promises.extended s r → r.now ≡ extended_bytes x.value.extended
  extended-told r part = extended-handed s n within x r part

  -- that is the empty part at the record's end
  pub no-extended-told : x.value.extended ≡ none → (r : Bor (List ℕ)) → promises.extended s r → Part s r n 0
  unfolding extended_place extended_size extended_bytes
  no-extended-told e r part = rw (read, e, sub-zero n) at part

  -- rest hands out the bytes behind the record
  pub rest-told : (r : Bor (List ℕ)) → promises.rest s r → r.now ≡ drop n s.now
  unfolding rest_place rest_size
  rest-told r part = rw read at part.bytes ∙ take_all (length s.now - n) (drop n s.now) (rw (length-drop n s.now) (omega arith))

  -- ---- One point

  module _ (index : ℕ) (inside : index < length x.value.points) where
    -- judge_point says that there is a point of each index below the count
    pub point-said : (r : Result ⊤ Refusal) → promises.judge_point s.now index r → r ≡ Ok tt
    unfolding pointed_at
    point-said r answers = answers ∙ rw (read, lt-ltb index (length x.value.points) inside)

    -- and point hands out its numbers in sixteen places
    pub point-told : (r : List Place) → promises.point s.now index r
        → r ≡ places_of (included x.value.description) (stored x.value.description) (get_or x.value.points index [])
    unfolding places_in
    point-told r answers = answers ∙ rw (read, lt-ltb index (length x.value.points) inside)

  module _ (index : ℕ) (outside : length x.value.points ≤ index) where
    -- judge_point says 10 of every other index
    pub no-point-said : (r : Result ⊤ Refusal) → promises.judge_point s.now index r → r ≡ Err NoPoint
    unfolding pointed_at
    no-point-said r answers = answers ∙ rw (read, le-ltb index (length x.value.points) outside)

    -- and point hands out sixteen absent places
    pub no-point-told : (r : List Place) → promises.point s.now index r → r ≡ nowhere
    unfolding places_in
    no-point-told r answers = answers ∙ rw (read, le-ltb index (length x.value.points) outside)

-- judge refuses what is lent: nothing is handed out
module _ (s : Bor (List ℕ)) (q : Judged) (judges : promises.judge s.now q) (refusal : Refusal) (refused : q.verdict ≡ Err refusal) where
  nothing : NothingIn (run full_record s.now) refusal
  nothing = nothing-in (run full_record s.now) refusal (rw judges at refused)

  -- extended and rest hand out the empty part at the start
  pub refused-extended : (r : Bor (List ℕ)) → promises.extended s r → Part s r 0 0
  refused-extended r part = rw (nothing.extended_at, nothing.extended_many) at part

  pub refused-rest : (r : Bor (List ℕ)) → promises.rest s r → Part s r 0 0
  refused-rest r part = rw (nothing.rest_at, nothing.rest_many (length s.now)) at part

  -- judge_point refuses alike, and point hands out sixteen absent places
  pub refused-point-said : (index : ℕ) (r : Result ⊤ Refusal) → promises.judge_point s.now index r → r ≡ Err refusal
  refused-point-said index r answers = answers ∙ nothing.said_of_points index

  pub refused-point-told : (index : ℕ) (r : List Place) → promises.point s.now index r → r ≡ nowhere
  refused-point-told index r answers = answers ∙ nothing.places_of_points index
