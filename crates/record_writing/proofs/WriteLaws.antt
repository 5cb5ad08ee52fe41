-- What passes every stage is a valid record, and its bytes are its parts one behind the other.
use Rattle.std.specs.Prelude.{◌≡◌, refl, Bool, true, false, cond, ◌&&◌, ℕ, ◌+◌, ◌*◌, ◌<◌, T, ltb, ℤ, length, Ok, Err}
use Rattle.std.proofs.Math.Path.{sym}
use mathlib.Core.List.{List, [], ◌∷◌, ◌++◌, flat_map, append_assoc}
use Rattle.std.proofs.Math.Option.{Option, none, some}
use Rattle.std.proofs.Common.{arith}
use borrow.Author.Tests.{not-true, ltb-false, lt-ltb, le-ltb}
use Rattle.std.proofs.Math.ListN.{length-append}
use Rattle.formats.specs.Bytes.{Bytes}
use Rattle.formats.specs.Number.{digits, length_digits}
use Rattle.refusals.specs.Stages.{require, or_else, stages, require-passed, or-else-passed, stages-passed}
use Rattle.refusals.specs.declared.Quantity.TheVariants as quantity
use Rattle.refusals.specs.declared.Refusal.{Refusal}
use Rattle.refusals.specs.declared.Refusal.TheVariants.{OutOfRange, ExtendedSize}
use Rattle.channels.specs.declared.Description.{Description}
use Rattle.points.specs.Points.{width, encode_point}
use Rattle.values.specs.Values as values
use Rattle.orders.specs.Orders.{size, points_of}
use Rattle.orders.proofs.OrderLaws.{points-many}
use Rattle.values.proofs.ValueLaws.{fits-valid, fits-length}
use Rattle.orders.specs.declared.Order.{Order}
use Rattle.descriptions.specs.Description.{encode_description}
use Rattle.description_judging.specs.Judging as described
use Rattle.description_judging.proofs.JudgingLaws.{passed-valid}
use Rattle.channels.specs.Descriptors.{stored}
use Rattle.channels.specs.declared.Format.TheVariants.{Full}
use Rattle.records.specs.Record.{identifier_bytes, version_bytes, opening_byte, encode_extended, encode, ValidExtended, Valid}
use Rattle.record_writing.specs.Write.{record_in, count_stage, extended_stage, numbers_judged, judgement_in, write_in, NumbersPass, Passes}
use Rattle.record_writing.specs.Parts.{opening_bytes, front_bytes, record_bytes, write_described}

-- ---- Small facts

regroup : (i v d z o n r x : List ℕ) → (i ++ v ++ d ++ z) ++ o ++ n ++ r ++ x ≡ (i ++ v ++ d ++ (z ++ (o ++ n))) ++ (r ++ x)
regroup i v d z o n r x = simp append_assoc

fits-length-of : (wanted : Bool) (extended : List ℕ) → (T wanted → length extended < 65536) → (wanted && ltb 65535 (length extended)) ≡ false
fits-length-of true extended h = le-ltb 65535 (length extended) (omega (arith, h tt))
fits-length-of false extended h = refl

extended-valid : (wanted : Bool) (extended : List ℕ) → (T wanted → length extended < 65536) → Bytes extended → ValidExtended (cond wanted (some extended) none)
unfolding ValidExtended
extended-valid true extended h g = (omega (arith, h tt), g)
extended-valid false extended h g = tt

opened : (wanted : Bool) (extended : List ℕ) → opening_byte (cond wanted (some extended) none) ≡ cond wanted 0x80 0x00
unfolding opening_byte
opened true extended = refl
opened false extended = refl

-- ---- By the channels that are stored

module _ (order : Order) (stored : List Bool) (count : ℕ) (numbers : List ℤ) (wanted : Bool) (extended : List ℕ) where
  -- how long the bytes are
  pub bytes-length : (described : List ℕ) → values.judgement_of 2 stored order count numbers ≡ Ok tt
      → length described + count * width 2 stored + length (encode_extended (cond wanted (some extended) none)) + 13 ≡ length (record_bytes order described stored count numbers wanted extended)
  unfolding record_bytes front_bytes opening_bytes
  bytes-length described e = sym (simp length-append (omega (arith, fits-length 2 stored order count numbers e, length_digits 3 count)))

  not-long : (wanted : Bool) → (wanted && ltb 65535 (length extended)) ≡ false → T wanted → length extended < 65536
  not-long true e h = omega (arith, ltb-false 65535 (length extended) e)
  not-long false e h = absurd h

  -- what passes the stages behind the description's
  pub numbers-pass : numbers_judged order stored count numbers wanted extended ≡ Ok tt → NumbersPass order stored count numbers wanted extended
  unfolding numbers_judged
  numbers-pass e =
      let y = stages-passed (count_stage count ∷ values.judgement_of 2 stored order count numbers ∷ extended_stage wanted extended ∷ []) e in
      record {
        counted = omega (arith, ltb-false 16777215 count (not-true _ (require-passed _ _ y.0)));
        fitting = y.1.0;
        small = not-long wanted (not-true _ (require-passed _ _ y.1.1.0));
      }

  -- ---- Each of them, by its test

  module _ (counted : count < 16777216) where
    within : ltb 16777215 count ≡ false
    within = le-ltb 16777215 count (omega arith)

    pub at-values : {refusal : Refusal} → values.judgement_of 2 stored order count numbers ≡ Err refusal → numbers_judged order stored count numbers wanted extended ≡ Err refusal
    unfolding numbers_judged or_else stages require
    at-values h = rw (within, h)

    module _ (fit : values.judgement_of 2 stored order count numbers ≡ Ok tt) where
      pub at-extended : wanted ≡ true → 65535 < length extended → numbers_judged order stored count numbers wanted extended ≡ Err ExtendedSize
      unfolding numbers_judged or_else stages require
      at-extended e h = rw (within, fit, e, lt-ltb 65535 (length extended) h)

      pub at_last : (T wanted → length extended < 65536) → numbers_judged order stored count numbers wanted extended ≡ Ok tt
      unfolding numbers_judged or_else stages require
      at_last h = rw (within, fit, fits-length-of wanted extended h)

  pub at_count : 16777215 < count → numbers_judged order stored count numbers wanted extended ≡ Err (OutOfRange quantity.Count)
  unfolding numbers_judged or_else stages require
  at_count h = rw (lt-ltb 16777215 count h)

-- ---- The record

module _ (order : Order) (d : Description) (count : ℕ) (numbers : List ℤ) (wanted : Bool) (extended : List ℕ) where
  abbrev extra : Option (List ℕ)
  extra = cond wanted (some extended) none

  abbrev row : List ℕ
  row = flat_map (encode_point 2 (stored d)) (points_of order count (size (stored d)) numbers)

  -- its bytes, part by part
  pub in_parts : encode (record_in order d count numbers wanted extended) ≡ record_bytes order (encode_description 2 d) (stored d) count numbers wanted extended
  unfolding encode record_in record_bytes front_bytes opening_bytes
  in_parts = rw (points-many order count (size (stored d)) numbers, opened wanted extended)
      (regroup identifier_bytes version_bytes (encode_description 2 d) (0x00 ∷ []) (cond wanted 0x80 0x00 ∷ []) (digits 3 count) row (encode_extended extra))

  -- what becomes of it, once its description was put aside
  pub described-written : (out : List ℕ) {bytes : List ℕ} {flags : List Bool} → described.judgement_of Full d ≡ Ok tt → bytes ≡ encode_description 2 d → flags ≡ stored d
      → write_described order bytes flags count numbers wanted extended out ≡ write_in order d count numbers wanted extended out
  unfolding write_in write_described judgement_in or_else
  described-written out e b f = rw (b, f) (sym (rw (e, in_parts)))

  -- it is valid
  pub passes-valid : Passes order d count numbers wanted extended → length d.channels ≡ 16 → Bytes extended → Valid (record_in order d count numbers wanted extended)
  unfolding record_in
  passes-valid p h g = record {
    description = passed-valid Full d p.described h;
    count = omega (arith, points-many order count (size (stored d)) numbers, p.numbered.counted);
    points = (fits-valid 2 (stored d) order count numbers p.numbered.fitting).1;
    extended = extended-valid wanted extended p.numbered.small g;
  }

  -- what passes every stage, and the other way round
  pub passes : judgement_in order d count numbers wanted extended ≡ Ok tt → Passes order d count numbers wanted extended
  unfolding judgement_in
  passes e =
      let x = or-else-passed (described.judgement_of Full d) (numbers_judged order (stored d) count numbers wanted extended) e in
      record { described = x.0; numbered = numbers-pass order (stored d) count numbers wanted extended x.1 }

  pub passing : Passes order d count numbers wanted extended → judgement_in order d count numbers wanted extended ≡ Ok tt
  unfolding judgement_in or_else
  passing p = rw p.described (at_last order (stored d) count numbers wanted extended p.numbered.counted p.numbered.fitting p.numbered.small)
