-- Reading and writing together, over what the functions promise: what was written is judged as what was asked for, and what was read is written as it stood.
use Rattle.std.specs.Prelude.{◌≡◌, Bool, true, false, cond, List, ◌++◌, ℕ, ◌+◌, ◌≤◌, ◌<◌, T, leb, ℤ, take, Ok, Result, Err, ⊤}
use Rattle.std.proofs.Math.Path.{refl, sym, ap, ap₂}
use Rattle.std.proofs.Common.{◌∙◌}
use Rattle.std.proofs.Math.Option.{Option, none, some}
use Rattle.std.proofs.Math.Nat.{sub-zero}
use native.Mathlib.Omega.{arith}
use borrow.Author.Tests.{le-leb, leb-true}
use Rattle.std.proofs.Math.ListN.{length, drop}
use Rattle.std.proofs.Math.Seq.{length-take-le}
use Rattle.formats.specs.Bytes.{Bytes, impossible}
use Rattle.formats.specs.Put.{puts, puts-is}
use Rattle.formats.specs.Reader.{ok, run}
use Rattle.formats.proofs.Lawful.{whole}
use Rattle.formats.specs.Lent.{writing}
use Rattle.refusals.specs.declared.Refusal.TheVariants.{Room}
use Rattle.channels.specs.declared.Description.{Description}
use Rattle.description_judging.proofs.JudgingLaws.{valid-passed}
use Rattle.orders.specs.Orders.{size, values_of}
use Rattle.orders.proofs.OrderLaws.{points-many, points-again}
use Rattle.values.proofs.ValueLaws.{valid-sizes, laid-fits}
use Rattle.orders.specs.declared.Order.{Order}
use Rattle.channels.specs.Descriptors.{stored}
use Rattle.channels.specs.declared.Format.TheVariants.{Full}
use Rattle.records.specs.Record.{Record, full_record, encode, ValidExtended, Valid, present, extended_bytes}
use Rattle.records.specs.Demands.{read-after-write, write-after-read}
use Rattle.record_reading.specs.Verdict.{verdict_from, description_in, judged}
use Rattle.record_writing.specs.Write.{record_in, judgement_in, Passes, put_where, write_in}
use Rattle.record_writing.proofs.WriteLaws.{passes, passes-valid, passing}
use Rattle.refusals.specs.declared.Refusal.{Refusal}

-- ---- Some small facts

present-wanted : (wanted : Bool) (extended : List ℕ) → present (cond wanted (some extended) none) ≡ wanted
unfolding present
present-wanted true extended = refl
present-wanted false extended = refl

extended-same : (e : Option (List ℕ)) → cond (present e) (some (extended_bytes e)) none ≡ e
unfolding present extended_bytes
extended-same none = refl
extended-same (some bytes) = refl

extended-small : (e : Option (List ℕ)) → ValidExtended e → T (present e) → length (extended_bytes e) < 65536
unfolding present extended_bytes ValidExtended
extended-small none h q = absurd q
extended-small (some bytes) h q = omega (arith, h.0)

-- ---- Written, and read again

module _ (order : Order) (d : Description) (count : ℕ) (values : List ℤ) (wanted : Bool) (extended out : List ℕ) where
  abbrev asked : Record
  asked = record_in order d count values wanted extended

  -- a record was written: every stage passed, there was room, and its bytes stand before what the output held behind them
  pub record Wrote (n : ℕ) (bytes : List ℕ) : Type 0 where
    pub passes : Passes order d count values wanted extended
    pub size : n ≡ length (encode asked)
    pub room : n ≤ length out
    pub holds : bytes ≡ encode asked ++ drop n out

  by-room : {n : ℕ} {bytes : List ℕ} (t : Bool) → leb (length (encode asked)) (length out) ≡ t → Passes order d count values wanted extended
      → cond t (writing (Ok (length (encode asked))) (puts out 0 (encode asked))) (writing (Err Room) out) ≡ writing (Ok n) bytes → Wrote n bytes
  by-room {n} {bytes} true h p e =
      let q = ap (λ x. x.answer) e in
      let z : length (encode asked) ≡ n = cc in
      let room : length (encode asked) ≤ length out = leb-true (length (encode asked)) (length out) h in
      record {
        passes = p;
        size = sym z;
        room = omega arith;
        holds = sym (ap (λ x. x.bytes) e) ∙ puts-is out 0 (encode asked) (omega arith) ∙ ap (λ k. encode asked ++ drop k out) {x = 0 + length (encode asked)} {y = n} (omega arith);
      }
  by-room false h p e = impossible (cc (ap (λ x. x.answer) e))

  by-judgement : {n : ℕ} {bytes : List ℕ} (j : Result ⊤ Refusal) → judgement_in order d count values wanted extended ≡ j → put_where (encode asked) out j ≡ writing (Ok n) bytes → Wrote n bytes
  unfolding put_where
  by-judgement (Ok _) q e = by-room (leb (length (encode asked)) (length out)) refl (passes order d count values wanted extended q) e
  by-judgement (Err refusal) q e = impossible (cc (ap (λ x. x.answer) e))

  pub wrote : {n : ℕ} {bytes : List ℕ} → write_in order d count values wanted extended out ≡ writing (Ok n) bytes → Wrote n bytes
  unfolding write_in
  wrote e = by-judgement (judgement_in order d count values wanted extended) refl e

  -- a description always has sixteen channels, and what is lent as extended data are bytes: so the record is read back, with its points and extended data
  module _ (sixteen : length d.channels ≡ 16) (lent : Bytes extended) {n : ℕ} {bytes : List ℕ} (e : write_in order d count values wanted extended out ≡ writing (Ok n) bytes) where
    pub written_read : run full_record bytes ≡ ok asked n
    written_read =
        let w = wrote e in
        ap (run full_record) w.holds ∙ read-after-write asked (drop n out) (passes-valid order d count values wanted extended w.passes sixteen lent) ∙ ap (ok asked) (sym w.size)

    -- and judged with its length, description and count, and whether extended data are present
    pub written-judged : judged (run full_record bytes) ≡ record { verdict = (Ok (record { length = n; count = count; extended = wanted })); description = d }
    unfolding verdict_from description_in record_in
    written-judged =
        ap judged written_read
        ∙ (λ i. record { verdict = (Ok (record { length = sub-zero n i; count = points-many order count (size (stored d)) values i; extended = present-wanted wanted extended i })); description = d })

-- ---- Read, and written again

module _ (order : Order) (s : List ℕ) (bytes : Bytes s) (r : Record) (n : ℕ) (e : run full_record s ≡ ok r n) where
  valid : Valid r
  valid = (write-after-read s r n bytes e).0

  abbrev values : List ℤ
  values = values_of order (size (stored r.description)) r.points

  abbrev extra : List ℕ
  extra = extended_bytes r.extended

  same : record_in order r.description (length r.points) values (present r.extended) extra ≡ r
  unfolding record_in
  same = λ i. record { description = r.description; points = points-again (size (stored r.description)) r.points (valid-sizes 2 (stored r.description) r.points valid.points) order i; extended = extended-same r.extended i }

  -- a record that was read passes every stage: writing it is never refused with 4, 11, 12, 13 or 14
  pub read-passes : judgement_in order r.description (length r.points) values (present r.extended) extra ≡ Ok tt
  read-passes =
      passing order r.description (length r.points) values (present r.extended) extra
      (record {
        described = (valid-passed Full r.description valid.description).0;
        numbered = record {
          counted = valid.count;
          fitting = laid-fits 2 (stored r.description) order r.points valid.points;
          small = extended-small r.extended valid.extended;
        };
      })

  -- and where there is room, its bytes are written as they stood
  pub read-written : (out : List ℕ) → n ≤ length out
      → write_in order r.description (length r.points) values (present r.extended) extra out ≡ writing (Ok n) (take n s ++ drop n out)
  unfolding write_in put_where
  read-written out room =
      let w = write-after-read s r n bytes e in
      let size : length (encode r) ≡ n = sym (ap length w.1) ∙ length-take-le n s (whole full_record s e).within in
      let place : 0 + length (encode r) ≡ n = omega arith in
      rw (read-passes, same, le-leb (length (encode r)) (length out) (omega arith))
      (ap₂ writing (ap Ok size) (puts-is out 0 (encode r) (omega arith) ∙ ap₂ (λ b k. b ++ drop k out) (sym w.1) place))
