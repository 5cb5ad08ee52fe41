-- What document 01 demands of judging, said of what `judge`, `verdict_at` and `judge_whole` answer: for any bytes, and any answer that meets the promise.
use Rattle.std.specs.Prelude.{◌≡◌, ◌↔◌, ◌≢◌, ◌⊎◌, Bool, List, [], ℕ, suc, ◌-◌, ◌≤◌, ◌<◌, length, take, drop, get_or, Ok, Result, Err}
use Rattle.std.proofs.Common.{sym, ap, ◌∙◌, arith, take_all}
use Rattle.formats.specs.Bytes.{Bytes, bytes_drop}
use Rattle.formats.specs.Reader.{bad, run, read_at}
use Rattle.formats.proofs.Lawful.{whole}
use Rattle.refusals.specs.declared.Refusal.{Refusal}
use Rattle.refusals.specs.declared.Refusal.TheVariants.{Short, LeftOver}
use Rattle.records.specs.Record.{full_record, IsRecord}
use Rattle.records.specs.Rules.{Breaks}
use Rattle.records.specs.Demands as demands
use Rattle.records.specs.Demands.{Begins}
use Rattle.records.specs.Blame as blame
use Rattle.record_reading.specs.Verdict.{judged_whole}
use Rattle.record_reading.specs.declared.Extent.{Extent}
use Rattle.record_reading.specs.declared.Judged.{Judged}
use Rattle.demands.specs.Promises as promises
use Rattle.demands.specs.Saying.{saying, Accepts, Refuses, Sayable}
use Rattle.demands.specs.JudgingLaws.{Numbered, is-record, whole-is-read, record-is-read, record-read, read-judged, accepts, short-read, read_short, refused-read, read-refused, all_said, numbered-moved, record-moved, short-moved, refused-moved, whole-fits, whole-left, whole-refused, whole-read, left-read, whole-said}

module _ (s : List ℕ) (bytes : Bytes s) where
  numbered : Numbered (run full_record s)
  numbered = blame.no-other-number s bytes

  -- ---- The front of some bytes: judge

  module _ (r : Judged) (answers : promises.judge s r) where
    -- judge says short exactly when the bytes are a beginning, and not the whole, of a record
    pub short-exactly : (r.verdict ≡ Err Short) ↔ ((x : Begins s) × (x.rest ≢ []))
    short-exactly = (to, from)
      where
        to : r.verdict ≡ Err Short → (x : Begins s) × (x.rest ≢ [])
        to e = let y = (demands.short-exactly s bytes).0 (short-read 0 (run full_record s) numbered (rw answers at e)) in (y.0, y.1)

        from : (x : Begins s) × (x.rest ≢ []) → r.verdict ≡ Err Short
        from x = rw answers (read_short 0 (run full_record s) ((demands.short-exactly s bytes).1 (x.0, x.1)))

    -- of a record, whatever follows it, judge says its length, count and description, and whether it has extended data
    pub record-told : (n : ℕ) → n ≤ length s → (x : IsRecord (take n s)) → r ≡ saying n x.value
    record-told n h x = answers ∙ read-judged (run full_record s) x.value n (record-is-read s n h x)

    -- judge says a record of n bytes exactly when the first n bytes are a record
    pub record-exactly : (n : ℕ) → Accepts r.verdict n ↔ ((n ≤ length s) × IsRecord (take n s))
    record-exactly n = (to, λ x. accepts n x.1.value (record-told n x.0 x.1))
      where
        to : Accepts r.verdict n → (n ≤ length s) × IsRecord (take n s)
        to x = let q = record-read (run full_record s) n (rw answers at x) in ((whole full_record s q.1).within, is-record s bytes q.0 n q.1)

    as_read : (number place : ℕ) → Refuses r.verdict number place → run full_record s ≡ bad number place
    as_read number place x = refused-read 0 (run full_record s) numbered number place (rw answers at x)

    as-refused : (number place : ℕ) → run full_record s ≡ bad number place → Refuses r.verdict number place
    as-refused number place e = rw answers (read-refused 0 (run full_record s) numbered number place e)

    -- judge refuses a byte with a number exactly when that byte breaks the rule of that number, behind bytes that break none
    pub refused-exactly : (number place : ℕ) → Refuses r.verdict number place ↔ ((place < length s) × Breaks (take place s) (get_or s place 0) number)
    refused-exactly number place =
        let law = blame.refused-exactly s bytes number place in
        (λ x. law.0 (as_read number place x), λ x. as-refused number place (law.1 x))

    -- that byte is the first after which no record can begin that way
    pub refused-first : (number place : ℕ) → Refuses r.verdict number place → (place < length s) × Begins (take place s) × (Begins (take (suc place) s) → ⊥)
    refused-first number place x = demands.refused-at s bytes number place (as_read number place x)

    -- and such a byte is refused, unless a whole record stands before it
    pub first-refused : (place : ℕ) → place < length s → (x : Begins (take place s)) → x.rest ≢ [] → (Begins (take (suc place) s) → ⊥)
        → (number : ℕ) × Refuses r.verdict number place
    first-refused place h x proper never = let y = demands.refused-if s bytes place h x proper never in (y.0, as-refused y.0 place y.1)

    -- judge says nothing else: a record, or 1, or a byte refused with a number from 2 to 8
    pub nothing-else : Sayable r.verdict
    nothing-else = rw answers (all_said 0 (run full_record s) numbered)

  -- ---- From a place on: verdict_at

  -- it says what judge says of the bytes from there on
  module _ (start : ℕ) (r : Result Extent Refusal) (answers : promises.verdict_at s start r) (q : Judged) (judges : promises.judge (drop start s) q) where
    numbered-behind : Numbered (run full_record (drop start s))
    numbered-behind = blame.no-other-number (drop start s) (bytes_drop start s bytes)

    -- the same record
    pub record-at : (n count : ℕ) (extended : Bool) → (r ≡ Ok (record { length = n; count = count; extended = extended })) ↔ (q.verdict ≡ Ok (record { length = n; count = count; extended = extended }))
    unfolding read_at
    record-at n count extended = rw (answers, judges) (record-moved start (run full_record (drop start s)) n count extended)

    -- short alike
    pub short-at : (r ≡ Err Short) ↔ (q.verdict ≡ Err Short)
    unfolding read_at
    short-at = rw (answers, judges) (short-moved start (run full_record (drop start s)) numbered-behind)

    -- and the same byte refused with the same number, its place counted from the start of all
    pub refused-at : (number place : ℕ) → Refuses r number place ↔ ((start ≤ place) × Refuses q.verdict number (place - start))
    unfolding read_at
    refused-at number place = rw (answers, judges) (refused-moved start (run full_record (drop start s)) numbered-behind number place)

    -- it says nothing else either
    pub nothing-else-at : Sayable r
    unfolding read_at
    nothing-else-at = rw answers (all_said start (read_at full_record s start) (numbered-moved start (run full_record (drop start s)) numbered-behind))

  -- ---- A whole slice: judge_whole

  module _ (r : Judged) (answers : promises.judge_whole s r) where
    -- of a record judge_whole says its length, which is the slice's, its count and description, and whether it has extended data
    pub whole-told : (x : IsRecord s) → r ≡ saying (length s) x.value
    whole-told x = answers ∙ ap (judged_whole (length s)) (whole-is-read x) ∙ whole-fits (length s) x.value (length s) (omega arith)

    taken : (n : ℕ) → Accepts r.verdict n → (n ≡ length s) × IsRecord (take n s)
    taken n x =
        let q = whole-read (length s) (run full_record s) n (rw answers at x) in
        (omega (arith, q.2, (whole full_record s q.1).within), is-record s bytes q.0 n q.1)

    -- judge_whole says a record exactly when the slice is a record
    pub whole-exactly : ((n : ℕ) × Accepts r.verdict n) ↔ IsRecord s
    whole-exactly = (to, λ x. (length s, accepts (length s) x.value (whole-told x)))
      where
        to : (n : ℕ) × Accepts r.verdict n → IsRecord s
        to x = let y = taken x.0 x.1 in rw (take_all x.0 s (omega (arith, y.0))) at y.1

    -- and the length that it names is the slice's
    pub whole_length : (n : ℕ) → Accepts r.verdict n → n ≡ length s
    whole_length n x = (taken n x).0

    -- judge_whole refuses with 9, at a place, exactly when that is a place of the slice and the bytes before it are a record
    pub left-over-exactly : (place : ℕ) → (r.verdict ≡ Err (LeftOver place)) ↔ ((place < length s) × IsRecord (take place s))
    left-over-exactly place = (to, from)
      where
        to : r.verdict ≡ Err (LeftOver place) → (place < length s) × IsRecord (take place s)
        to e = let q = left-read (length s) (run full_record s) numbered place (rw answers at e) in (q.2, is-record s bytes q.0 place q.1)

        from : (place < length s) × IsRecord (take place s) → r.verdict ≡ Err (LeftOver place)
        from x =
            let read = record-is-read s place (omega (arith, x.0)) x.1 in
            ap (λ v. v.verdict) (answers ∙ ap (judged_whole (length s)) read ∙ whole-left (length s) x.1.value place x.0)

    -- what judge refuses judge_whole refuses alike
    pub refused-alike : (q : Judged) → promises.judge s q → (refusal : Refusal) → q.verdict ≡ Err refusal → r ≡ q
    refused-alike q e refusal x = answers ∙ whole-refused (length s) (run full_record s) refusal (rw e at x) ∙ sym e

    -- judge_whole says nothing else: what judge may say, or bytes left over
    pub whole-nothing-else : Sayable r.verdict ⊎ ((place : ℕ) × (r.verdict ≡ Err (LeftOver place)))
    whole-nothing-else = rw answers (whole-said (length s) (run full_record s) numbered)
