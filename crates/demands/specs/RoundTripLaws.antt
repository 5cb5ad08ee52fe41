-- What reading handed out of a record is what writing it wants: its description, its count, its numbers in one row and its extended data.
use Rattle.std.specs.Prelude.{◌≡◌, refl, Bool, true, false, cond, ℕ, ◌+◌, ◌≤◌, ◌<◌, length, take, get_or, Ok}
use Rattle.std.proofs.Common.{sym, ap, ◌∙◌, arith}
use mathlib.Core.List.{List, [], flatten}
use Rattle.std.proofs.Math.Option.{none, some}
use Rattle.std.specs.Borrow.{Bor}
use Rattle.formats.specs.Bytes.{Bytes}
use Rattle.formats.proofs.Lawful.{whole}
use Rattle.formats.specs.Reader.{Answer, ok, run}
use Rattle.channels.specs.declared.Description.{Description}
use Rattle.channels.specs.declared.Place.{Place}
use Rattle.orders.specs.Orders.{size}
use Rattle.orders.proofs.OrderLaws.{size-at}
use Rattle.values.proofs.ValueLaws.{valid-sizes}
use Rattle.channels.specs.Descriptors.{included, stored}
use Rattle.records.specs.Record.{Record, full_record, IsRecord, present, extended_bytes}
use Rattle.records.specs.Demands.{write-after-read}
use Rattle.record_reading.specs.Extents.{same_extent}
use Rattle.record_reading.specs.declared.Judged.{Judged}
use Rattle.demands.specs.Promises as promises
use Rattle.demands.specs.Saying.{saying, numbers_in, numbers_of}
use Rattle.demands.specs.JudgingLaws.{record-read, read-judged}
use Rattle.demands.specs.Reading.{point-told}
use Rattle.demands.specs.ReadingLaws.{numbers-in, numbers-of-from}

pub extended-given : (wanted : Bool) (extended : List ℕ) → extended_bytes (cond wanted (some extended) none) ≡ cond wanted extended []
unfolding extended_bytes
extended-given true extended = refl
extended-given false extended = refl

-- the record that was read, and what a judgement says of it
pub record Spoken (a : Answer Record) (d : Description) (n count : ℕ) (wanted : Bool) : Type 0 where
  pub value : Record
  pub read : a ≡ ok value n
  pub described : d ≡ value.description
  pub counted : count ≡ length value.points
  pub presence : wanted ≡ present value.extended

pub spoken : (a : Answer Record) (q : Record) (n : ℕ) → a ≡ ok q n → (r : Judged) → r ≡ saying n q → (count : ℕ) (wanted : Bool) → r.verdict ≡ Ok (record { length = n; count = count; extended = wanted }) → Spoken a r.description n count wanted
spoken a q n read r told count wanted said =
    let same = same_extent (sym said ∙ ap (λ x. x.verdict) told) in
    record { value = q; read = read; described = ap (λ x. x.description) told; counted = same.1; presence = same.2 }

-- the record that judge spoke of
pub record Meant (s : List ℕ) (r : Judged) (n count : ℕ) (wanted : Bool) : Type 0 where
  pub within : n ≤ length s
  pub bytes : IsRecord (take n s)
  pub read : run full_record s ≡ ok bytes.value n
  pub described : r.description ≡ bytes.value.description
  pub counted : count ≡ length bytes.value.points
  pub presence : wanted ≡ present bytes.value.extended

pub meant : (s : List ℕ) → Bytes s → (r : Judged) → promises.judge s r → (n count : ℕ) (wanted : Bool) → r.verdict ≡ Ok (record { length = n; count = count; extended = wanted }) → Meant s r n count wanted
meant s bytes r judges n count wanted said =
    let a = run full_record s in
    let taken = record-read a n (record { count = count; extended = wanted; accepted = ap (λ x. x.verdict) (sym judges) ∙ said }) in
    let x = spoken a taken.0 n taken.1 r (judges ∙ read-judged a taken.0 n taken.1) count wanted said in
    let law = write-after-read s x.value n bytes x.read in
    record {
      within = (whole full_record s x.read).within;
      bytes = record { value = x.value; valid = law.0; written = law.1 };
      read = x.read;
      described = x.described;
      counted = x.counted;
      presence = x.presence;
    }

-- the numbers that point handed out, point by point, are those of the record's points
pub in_a_row : (s : Bor (List ℕ)) (n : ℕ) → n ≤ length s.now → (x : IsRecord (take n s.now)) (points : ℕ → List Place)
    → ((index : ℕ) → index < length x.value.points → promises.point s.now index (points index)) → numbers_of points (length x.value.points) 0 ≡ flatten x.value.points
in_a_row s n within x points handed =
    let d = x.value.description in
    let sizes = valid-sizes 2 (stored d) x.value.points x.valid.points in
    numbers-of-from points x.value.points 0 (λ i h.
    let z : 0 + i ≡ i = omega arith in
    ap (λ j. numbers_in (points j)) z
    ∙ ap numbers_in (point-told s n within x i h (points i) (handed i h))
    ∙ numbers-in (included d) (stored d) (get_or x.value.points i []) (size-at (size (stored d)) x.value.points sizes i h))
