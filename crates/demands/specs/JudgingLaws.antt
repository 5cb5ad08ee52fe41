-- What `judge`, `verdict_at` and `judge_whole` answer tells how reading ended: laws over the reader's three answers.
use Rattle.std.specs.Prelude.{◌≡◌, ◌↔◌, ◌⊎◌, Bool, cond, List, [], ℕ, ◌+◌, ◌-◌, ◌≤◌, ◌<◌, length, take, drop, Result, Ok, Err, Some}
use Rattle.std.proofs.Math.Path.{refl, ap, ap₂}
use Rattle.std.proofs.Common.{sym, ◌∙◌, append-nil, take-append-drop, length-take-le}
use Rattle.std.proofs.Math.Logic.{inl, inr}
use Rattle.std.proofs.Math.Bool.{true, false}
use Rattle.std.proofs.Math.Nat.{sub-zero}
use native.Mathlib.Omega.{arith}
use borrow.Author.Tests.{ltb-true, ltb-false, lt-ltb, le-ltb}
use Rattle.std.proofs.Math.Dec.{ltb}
use Rattle.formats.specs.Bytes.{Bytes, impossible}
use Rattle.formats.specs.Reader.{Answer, ok, short, bad, after, run}
use Rattle.formats.proofs.Lawful.{reads-append}
use Rattle.formats.specs.declared.Failure.TheVariants as failure
use Rattle.refusals.specs.Table.{number_of, place_of, refusal_of}
use Rattle.refusals.specs.Laws.{bad-refusal}
use Rattle.refusals.specs.declared.Refusal.{Refusal}
use Rattle.refusals.specs.declared.Refusal.TheVariants.{Short, LeftOver}
use Rattle.records.specs.Record.{Record, full_record, encode, IsRecord, present}
use Rattle.records.specs.Demands.{read-after-write, write-after-read}
use Rattle.record_reading.specs.Extents.{same_extent}
use Rattle.record_reading.specs.Verdict.{verdict_from, description_in, judged, unjudged, judged_whole}
use Rattle.record_reading.specs.declared.Judged.{Judged}
use Rattle.demands.specs.Saying.{saying, Accepts, Refuses, Sayable, a_record, too_short, refused_at}

-- ---- A record, and its reading

-- what reading takes is a record
pub is-record : (s : List ℕ) → Bytes s → (q : Record) (n : ℕ) → run full_record s ≡ ok q n → IsRecord (take n s)
is-record s bytes q n e = let x = write-after-read s q n bytes e in record { value = q; valid = x.0; written = x.1 }

-- and a record is taken, whatever follows it
pub whole-is-read : {s : List ℕ} (x : IsRecord s) → run full_record s ≡ ok x.value (length s)
whole-is-read x =
    ap (run full_record) (x.written ∙ sym (append-nil (encode x.value)))
    ∙ read-after-write x.value [] x.valid
    ∙ ap (λ b. ok x.value (length b)) (sym x.written)

pub record-is-read : (s : List ℕ) (n : ℕ) → n ≤ length s → (x : IsRecord (take n s)) → run full_record s ≡ ok x.value n
record-is-read s n h x =
    ap (run full_record) (sym (take-append-drop n s)) ∙ reads-append full_record (take n s) (drop n s) (whole-is-read x) ∙ ap (ok x.value) (length-take-le n s h)

-- ---- By judge, and from a start

ok-judged : (q : Record) (n : ℕ) → judged (ok q n) ≡ saying n q
unfolding verdict_from description_in
ok-judged q n = λ i. record { verdict = (Ok (record { length = sub-zero n i; count = length q.points; extended = present q.extended })); description = q.description }

-- it says a record where reading took one
pub record-read : (a : Answer Record) (n : ℕ) → Accepts (judged a).verdict n → (q : Record) × (a ≡ ok q n)
unfolding verdict_from
record-read (ok q m) n x = let z : m - 0 ≡ n = (same_extent x.accepted).0 in (q, ap (ok q) (sym (sub-zero m) ∙ z))
record-read short n x = impossible (cc x.accepted)
record-read (bad k p) n x = impossible (cc x.accepted)

pub accepts : {v : Judged} (n : ℕ) (q : Record) → v ≡ saying n q → Accepts v.verdict n
accepts n q e = record { count = length q.points; extended = present q.extended; accepted = ap (λ x. x.verdict) e }

pub read-judged : (a : Answer Record) (q : Record) (n : ℕ) → a ≡ ok q n → judged a ≡ saying n q
read-judged a q n e = ap judged e ∙ ok-judged q n

-- a record's refusals have the numbers 2 to 8
abbrev pub Numbered : Answer Record → Type 0
Numbered a = (k p : ℕ) → a ≡ bad k p → (2 ≤ k) × (k ≤ 8)

one_place : {p q : ℕ} → Some p ≡ Some q → p ≡ q
one_place e = cc

same-refusal : {A : Type 0} {x y : Refusal} → ◌≡◌ {A = Result A Refusal} (Err x) (Err y) → x ≡ y
same-refusal e = cc

-- it says short where reading did
pub short-read : (start : ℕ) (a : Answer Record) → Numbered a → verdict_from start a ≡ Err Short → a ≡ short
unfolding verdict_from
short-read start (ok q n) h e = impossible (cc)
short-read start short h e = refl
short-read start (bad k p) h e =
    let bounds = h k p refl in
    absurd (omega (arith, bounds.0, (bad-refusal k p bounds.0 (omega (arith, bounds.1))).0, ap number_of (same-refusal e)))

pub read_short : (start : ℕ) (a : Answer Record) → a ≡ short → verdict_from start a ≡ Err Short
unfolding verdict_from refusal_of
read_short start a e = ap (verdict_from start) e

-- and it refuses a byte where reading did
pub refused-read : (start : ℕ) (a : Answer Record) → Numbered a → (k p : ℕ) → Refuses (verdict_from start a) k p → a ≡ bad k p
unfolding verdict_from refusal_of
refused-read start (ok q n) h k p x = impossible (cc x.refused)
refused-read start short h k p x =
    let e : Short ≡ x.refusal = same-refusal x.refused in
    impossible (cc (ap place_of e ∙ x.placed))
refused-read start (bad j i) h k p x =
    let bounds = h j i refl in
    let law = bad-refusal j i bounds.0 (omega (arith, bounds.1)) in
    let e = same-refusal x.refused in
    let number : j ≡ k = sym law.0 ∙ ap number_of e ∙ x.numbered in
    let place : i ≡ p = one_place (sym law.1 ∙ ap place_of e ∙ x.placed) in
    rw (number, place)

pub read-refused : (start : ℕ) (a : Answer Record) → Numbered a → (k p : ℕ) → a ≡ bad k p → Refuses (verdict_from start a) k p
unfolding verdict_from
read-refused start a h k p e =
    let bounds = h k p e in
    let law = bad-refusal k p bounds.0 (omega (arith, bounds.1)) in
    record { refusal = refusal_of (failure.Bad k p); refused = ap (verdict_from start) e; numbered = law.0; placed = law.1 }

-- it says nothing else
pub all_said : (start : ℕ) (a : Answer Record) → Numbered a → Sayable (verdict_from start a)
unfolding verdict_from refusal_of
all_said start (ok q n) h = a_record (n - start) (record { count = length q.points; extended = present q.extended; accepted = refl })
all_said start short h = too_short refl
all_said start (bad k p) h = let bounds = h k p refl in refused_at k p bounds.0 bounds.1 (read-refused start (bad k p) h k p refl)

-- ---- By verdict_at

module _ (start : ℕ) where
  moved-bad : (a : Answer Record) (k p : ℕ) → after start a ≡ bad k p → (start ≤ p) × (a ≡ bad k (p - start))
  unfolding after
  moved-bad (ok q n) k p e = impossible (cc)
  moved-bad short k p e = impossible (cc)
  moved-bad (bad j i) k p e =
      let number : j ≡ k = cc in
      let place : start + i ≡ p = cc in
      let before : i ≡ p - start = omega (arith, place) in
      (omega (arith, place), ap₂ bad number before)

  bad-moved : (a : Answer Record) (k p : ℕ) → start ≤ p → a ≡ bad k (p - start) → after start a ≡ bad k p
  unfolding after
  bad-moved a k p h e = let place : start + (p - start) ≡ p = omega arith in ap (after start) e ∙ ap (bad k) place

  moved-short : (a : Answer Record) → after start a ≡ short → a ≡ short
  unfolding after
  moved-short (ok q n) e = impossible (cc)
  moved-short short e = refl
  moved-short (bad k p) e = impossible (cc)

  pub numbered-moved : (a : Answer Record) → Numbered a → Numbered (after start a)
  numbered-moved a h k p e = h k (p - start) (moved-bad a k p e).1

  -- a record alike, and short alike
  pub record-moved : (a : Answer Record) (n count : ℕ) (extended : Bool) → (verdict_from start (after start a) ≡ Ok (record { length = n; count = count; extended = extended })) ↔ ((judged a).verdict ≡ Ok (record { length = n; count = count; extended = extended }))
  unfolding verdict_from after
  record-moved (ok q m) n count extended =
      let z : start + m - start ≡ m - 0 = omega arith in
      rw z (λ e. e, λ e. e)
  record-moved short n count extended = (λ e. e, λ e. e)
  record-moved (bad k p) n count extended = (λ e. impossible (cc), λ e. impossible (cc))

  pub short-moved : (a : Answer Record) → Numbered a → (verdict_from start (after start a) ≡ Err Short) ↔ ((judged a).verdict ≡ Err Short)
  unfolding after
  short-moved a h = (
    λ e. read_short 0 a (moved-short a (short-read start (after start a) (numbered-moved a h) e)),
    λ e. read_short start (after start a) (ap (after start) (short-read 0 a h e)),
  )

  -- and a byte refused alike, with its place counted from the start
  pub refused-moved : (a : Answer Record) → Numbered a → (k p : ℕ) → Refuses (verdict_from start (after start a)) k p ↔ ((start ≤ p) × Refuses (judged a).verdict k (p - start))
  refused-moved a h k p = (to, from)
    where
      to : Refuses (verdict_from start (after start a)) k p → (start ≤ p) × Refuses (judged a).verdict k (p - start)
      to x = let y = moved-bad a k p (refused-read start (after start a) (numbered-moved a h) k p x) in (y.0, read-refused 0 a h k (p - start) y.1)

      from : (start ≤ p) × Refuses (judged a).verdict k (p - start) → Refuses (verdict_from start (after start a)) k p
      from x = read-refused start (after start a) (numbered-moved a h) k p (bad-moved a k p x.0 (refused-read 0 a h k (p - start) x.1))

-- ---- By judge_whole

module _ (size : ℕ) where
  -- where no byte follows a record it says what judge says, and else what is left over
  pub whole-fits : (q : Record) (n : ℕ) → size ≤ n → judged_whole size (ok q n) ≡ saying n q
  unfolding judged_whole
  whole-fits q n h = rw (le-ltb n size h) (ok-judged q n)

  pub whole-left : (q : Record) (n : ℕ) → n < size → judged_whole size (ok q n) ≡ unjudged (Err (LeftOver n))
  unfolding judged_whole
  whole-left q n h = rw (lt-ltb n size h)

  -- what judge refuses it refuses
  pub whole-refused : (a : Answer Record) (refusal : Refusal) → (judged a).verdict ≡ Err refusal → judged_whole size a ≡ judged a
  unfolding judged_whole verdict_from
  whole-refused (ok q n) refusal e = impossible (cc)
  whole-refused short refusal e = refl
  whole-refused (bad k p) refusal e = refl

  -- it says a record where reading took one that no byte follows
  pub whole-read : (a : Answer Record) (n : ℕ) → Accepts (judged_whole size a).verdict n → (q : Record) × (a ≡ ok q n) × (size ≤ n)
  unfolding judged_whole verdict_from
  whole-read (ok q m) n x = go (ltb m size) refl x.accepted
    where
      go : (t : Bool) → ltb m size ≡ t → (cond t (unjudged (Err (LeftOver m))) (judged (ok q m))).verdict ≡ Ok (record { length = n; count = x.count; extended = x.extended })
          → (v : Record) × (ok q m ≡ ok v n) × (size ≤ n)
      go true h e = impossible (cc)
      go false h e =
          let y = record-read (ok q m) n (record { count = x.count; extended = x.extended; accepted = e }) in
          let z : m ≡ n = cc y.1 in
          (y.0, y.1, omega (arith, ltb-false m size h))
  whole-read short n x = impossible (cc x.accepted)
  whole-read (bad k p) n x = impossible (cc x.accepted)

  -- and bytes left over where reading took one that some byte follows
  pub left-read : (a : Answer Record) → Numbered a → (p : ℕ) → (judged_whole size a).verdict ≡ Err (LeftOver p) → (q : Record) × (a ≡ ok q p) × (p < size)
  unfolding judged_whole verdict_from refusal_of
  left-read (ok q m) h p e = go (ltb m size) refl e
    where
      go : (t : Bool) → ltb m size ≡ t → (cond t (unjudged (Err (LeftOver m))) (judged (ok q m))).verdict ≡ Err (LeftOver p) → (v : Record) × (ok q m ≡ ok v p) × (p < size)
      go true h x = let z : m ≡ p = cc in (q, ap (ok q) z, omega (arith, ltb-true m size h))
      go false h x = impossible (cc)
  left-read short h p e = impossible (cc)
  left-read (bad k i) h p e =
      let bounds = h k i refl in
      absurd (omega (arith, bounds.1, (bad-refusal k i bounds.0 (omega (arith, bounds.1))).0, ap number_of (same-refusal e)))

  -- it says what judge may say, or bytes left over
  pub whole-said : (a : Answer Record) → Numbered a → Sayable (judged_whole size a).verdict ⊎ ((p : ℕ) × ((judged_whole size a).verdict ≡ Err (LeftOver p)))
  unfolding judged_whole
  whole-said (ok q m) h = go (ltb m size)
    where
      go : (t : Bool) → Sayable (cond t (unjudged (Err (LeftOver m))) (judged (ok q m))).verdict
          ⊎ ((p : ℕ) × ((cond t (unjudged (Err (LeftOver m))) (judged (ok q m))).verdict ≡ Err (LeftOver p)))
      go true = inr (m, refl)
      go false = inl (all_said 0 (ok q m) h)
  whole-said short h = inl (all_said 0 short h)
  whole-said (bad k p) h = inl (all_said 0 (bad k p) h)
