-- The claims of `Demands` hold: by what reading the slice answers, and by the laws of both orders.
use Rattle.std.specs.Prelude.{◌≡◌, refl, Bool, true, false, cond, List, ◌++◌, ℕ, ◌*◌, eqb, ltb, ℤ, length, take, drop, Ok, Err}
use Rattle.std.proofs.Common.{sym, ap, subst, ◌∙◌, arith, take_all}
use borrow.Author.Tests.{le-ltb, eq-eqb, ne_eqb}
use Rattle.formats.specs.Bytes.{impossible}
use Rattle.formats.proofs.Lawful.{reads-take}
use Rattle.formats.specs.Reader.{Answer, ok, short, bad, run}
use Rattle.formats.specs.declared.Failure.TheVariants.{Short, Bad}
use Rattle.refusals.specs.Table.{refusal_of}
use Rattle.refusals.specs.declared.Refusal.{Refusal}
use Rattle.refusals.specs.declared.Refusal.TheVariants.{LeftOver, Amount}
use Rattle.channels.specs.declared.Description.{Description}
use Rattle.orders.specs.Orders.{size, Same, values_of}
use Rattle.orders.proofs.OrderLaws.{points-many, values-many, values-again, both-orders}
use Rattle.orders.specs.declared.Order.TheVariants.{Point, Column}
use Rattle.values.proofs.ValueLaws.{valid-sizes, fits-valid}
use Rattle.channels.specs.Descriptors.{stored}
use Rattle.records.specs.Record.{Record, full_record}
use Rattle.records.specs.Demands.{write-after-read}
use Rattle.record_reading.specs.Verdict.{verdict_from, judged, unjudged, judged_whole}
use Rattle.record_writing.specs.Write.{record_in, write_in}
use Rattle.record_writing.proofs.RoundTrips as trips
use Rattle.demands.specs.Reading.{extended-told}
use Rattle.demands.specs.RoundTripLaws.{Spoken, spoken, in_a_row}
use Rattle.demands.specs.Saying.{numbers_of}
use Rattle.demands.specs.JudgingLaws.{whole-read, whole-fits}
use Rattle.record_columns.specs.Columns.{Filling, filling, amount, columns, columns_read, ReadColumns}
use Rattle.record_columns.specs.Demands.{Good, RefusesInOrder, HoldsTheSame, WritesBack, ReadsBack}

-- ---- A good record is one that was read

taken : (s : List ℕ) (d : Description) (count : ℕ) (wanted : Bool) → Good s d count wanted → Spoken (run full_record s) d (length s) count wanted
taken s d count wanted good =
    let n = length s in
    let x = whole-read n (run full_record s) n (record { count = count; extended = wanted; accepted = ap (λ j. j.verdict) (sym good.judges) ∙ good.said }) in
    let told = good.judges ∙ ap (judged_whole n) x.1 ∙ whole-fits n x.0 n (omega arith) in
    subst (λ e. Spoken (run full_record s) e n count wanted) good.described (spoken (run full_record s) x.0 n x.1 good.judged told count wanted good.said)

-- ---- What becomes of the buffer, by the amount

module _ (s : List ℕ) (q : Record) (read : run full_record s ≡ ok q (length s)) (values : List ℤ) where
  by-amount : (t : Bool) → eqb (length values) (amount q) ≡ t → columns_read (length s) (run full_record s) values ≡ cond t (filling (Ok tt) (columns q)) (filling (Err Amount) values)
  unfolding columns_read
  by-amount t e = rw (read, le-ltb (length s) (length s) (omega arith), e)

  right-amount : length values ≡ amount q → columns_read (length s) (run full_record s) values ≡ filling (Ok tt) (columns q)
  right-amount h = by-amount true (eq-eqb (length values) (amount q) h)

  wrong-amount : (length values ≡ amount q → ⊥) → columns_read (length s) (run full_record s) values ≡ filling (Err Amount) values
  wrong-amount h = by-amount false (ne_eqb (length values) (amount q) h)

  -- a buffer that was filled holds the columns
  are-columns : (after : List ℤ) → ReadColumns s values (Ok tt) after → after ≡ columns q
  are-columns after p = go (eqb (length values) (amount q)) refl
    where
      go : (t : Bool) → eqb (length values) (amount q) ≡ t → after ≡ columns q
      go true e = ap (λ f. f.values) (p ∙ by-amount true e)
      go false e = impossible (cc (ap (λ f. f.answer) (p ∙ by-amount false e)))

-- ---- The refusals in their order

own-refusal : (bytes : ℕ) (a : Answer Record) (values : List ℤ) (refusal : Refusal) → (judged_whole bytes a).verdict ≡ Err refusal → columns_read bytes a values ≡ filling (Err refusal) values
unfolding columns_read judged_whole verdict_from
own-refusal bytes (ok q n) values refusal e = go (ltb n bytes) e
  where
    rest : Filling
    rest = cond (eqb (length values) (amount q)) (filling (Ok tt) (columns q)) (filling (Err Amount) values)

    go : (t : Bool) → (cond t (unjudged (Err (LeftOver n))) (judged (ok q n))).verdict ≡ Err refusal
        → cond t (filling (Err (LeftOver n)) values) rest ≡ filling (Err refusal) values
    go true h = let z : LeftOver n ≡ refusal = cc in ap (λ x. filling (Err x) values) z
    go false h = impossible (cc)
own-refusal bytes short values refusal e = let z : refusal_of Short ≡ refusal = cc in ap (λ x. filling (Err x) values) z
own-refusal bytes (bad k p) values refusal e = let z : refusal_of (Bad k p) ≡ refusal = cc in ap (λ x. filling (Err x) values) z

module _ (s : List ℕ) (values : List ℤ) (d : Description) (count : ℕ) (wanted : Bool) (good : Good s d count wanted) where
  abbrev the-record : Spoken (run full_record s) d (length s) count wanted
  the-record = taken s d count wanted good

  -- the amount, by what judge_whole says
  amount-is : amount the-record.value ≡ count * size (stored d)
  amount-is = ap (λ n. n * size (stored the-record.value.description)) (sym the-record.counted) ∙ ap (λ e. count * size (stored e)) (sym the-record.described)

pub refuses-in-order : RefusesInOrder
refuses-in-order s values r after p =
    record {
      refused = λ j refusal judges said.
          let z = p ∙ own-refusal (length s) (run full_record s) values refusal (ap (λ x. x.verdict) (sym judges) ∙ said) in
          (ap (λ f. f.answer) z, ap (λ f. f.values) z);
      other-amount = λ d count wanted good h.
          let x = taken s d count wanted good in
          let z = p ∙ wrong-amount s x.value x.read values (λ e. h (e ∙ amount-is s values d count wanted good)) in
          (ap (λ f. f.answer) z, ap (λ f. f.values) z);
      same-amount = λ d count wanted good h.
          let x = taken s d count wanted good in
          ap (λ f. f.answer) (p ∙ right-amount s x.value x.read values (h ∙ sym (amount-is s values d count wanted good)));
    }

-- ---- The same numbers

pub holds-the-same : HoldsTheSame
unfolding values_of
holds-the-same s bytes d count wanted good points pointed values after p =
    let x = taken s.now d count wanted good in
    let q = x.value in
    let k = size (stored q.description) in
    let law = write-after-read s.now q (length s.now) bytes x.read in
    let sizes = valid-sizes 2 (stored q.description) q.points law.0.points in
    let held = are-columns s.now q x.read values after p in
    let row : numbers_of points count 0 ≡ values_of Point k q.points =
    ap (λ n. numbers_of points n 0) x.counted ∙ in_a_row s (length s.now) (omega arith) (record { value = q; valid = law.0; written = law.1 }) points (λ i h. pointed i (omega (arith, x.counted, h))) in (
      ap length held ∙ values-many k q.points sizes Column ∙ amount-is s.now values d count wanted good,
      subst
          (λ n. Same n (size (stored d)) (numbers_of points count 0) after)
          (sym x.counted)
          (subst
          (λ e. Same (length q.points) (size (stored e)) (numbers_of points count 0) after)
          (sym x.described)
          (rw (row, held) (both-orders k q.points sizes))),
    )

-- ---- Reading and writing together

pub writes-back : WritesBack
writes-back s bytes d count wanted good extended handed values after p out room r written-bytes writes =
    let x = taken s.now d count wanted good in
    let q = x.value in
    let n = length s.now in
    let law = write-after-read s.now q n bytes x.read in
    let held = are-columns s.now q x.read values after p in
    let part = extended-told s n (omega arith) (record { value = q; valid = law.0; written = law.1 }) extended handed in
    let same =
    writes
    ∙ (λ i. write_in Column (x.described i) (x.counted i) (held i) (x.presence i) (part i) out)
    ∙ trips.read-written Column s.now bytes q n x.read out room in
    (ap (λ w. w.answer) same, ap (λ w. w.bytes) same ∙ ap (λ b. b ++ drop n out) (take_all n s.now (omega arith)))

pub reads-back : ReadsBack
unfolding record_in
reads-back d sixteen count values wanted extended lent-bytes out n bytes writes lent many r after p =
    let w = trips.wrote Column d count values wanted extended out (sym writes) in
    let read = reads-take full_record bytes (trips.written_read Column d count values wanted extended out sixteen lent-bytes (sym writes)) in
    let fit = (fits-valid 2 (stored d) Column count values w.passes.numbered.fitting).0 in
    let k = size (stored d) in
    let asked = record_in Column d count values wanted extended in
    let right : length lent ≡ amount asked = many ∙ fit ∙ ap (λ m. m * k) (sym (points-many Column count k values)) in
    let z = p ∙ right-amount (take n bytes) asked read lent right in
    (ap (λ f. f.answer) z, ap (λ f. f.values) z ∙ values-again Column count k values fit)
