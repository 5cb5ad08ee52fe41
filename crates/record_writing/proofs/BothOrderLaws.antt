-- The same values in either order are one record, and each stage says the same of them: so they are written the same.
use Rattle.std.specs.Prelude.{◌≡◌, refl, Bool, true, false, not, ◌&&◌, List, ℕ, leb, ltb, ℤ, length, Result, Ok, Err, ⊤}
use Rattle.std.proofs.Common.{sym, ◌∙◌, inl}
use Rattle.std.proofs.Math.Path.{ap}
use Rattle.std.proofs.Math.Bool.{cond}
use Rattle.std.proofs.Math.Option.{none, some}
use Rattle.formats.specs.Bytes.{impossible}
use Rattle.formats.specs.Lent.{Writing, writing}
use Rattle.formats.specs.Put.{puts}
use Rattle.refusals.specs.Stages.{stages}
use Rattle.refusals.specs.declared.Quantity.TheVariants.{Count}
use Rattle.refusals.specs.declared.Refusal.{Refusal}
use Rattle.refusals.specs.declared.Refusal.TheVariants.{OutOfRange, ExtendedSize, Room}
use Rattle.channels.specs.declared.Description.{Description}
use Rattle.description_judging.specs.Judging as described
use Rattle.description_judging.proofs.NamingLaws.{names-given}
use Rattle.orders.specs.Orders.{size, Same}
use Rattle.orders.proofs.OrderLaws.{same_points}
use Rattle.orders.specs.declared.Order.TheVariants.{Point, Column}
use Rattle.values.specs.BothOrders.{NamesNoValue, SameJudgement}
use Rattle.values.proofs.BothOrderLaws.{same-behind, same-stage, same_test, same-judged}
use Rattle.channels.specs.Descriptors.{stored}
use Rattle.channels.specs.declared.Format.TheVariants.{Full}
use Rattle.records.specs.Record.{encode}
use Rattle.record_writing.specs.Write.{record_in, count_fits, numbers_judged, judgement_in, put_where, write_in}
use Rattle.record_writing.specs.BothOrders.{SameWriting, WritesTheSame}

-- a description names no sample value
no_value : (d : Description) (refusal : Refusal) → described.judgement_of Full d ≡ Err refusal → NamesNoValue refusal
no_value d refusal e at channel q = let x = names-given Full d _ (sym (e ∙ ap Err q)) in impossible (cc x.is)

module _ (d : Description) (count : ℕ) (rows columns : List ℤ) (wanted : Bool) (extended : List ℕ)
    (many : length rows ≡ length columns) (same : Same count (size (stored d)) rows columns) where
  abbrev k : ℕ
  k = size (stored d)

  abbrev small : Bool
  small = not (wanted && ltb 65535 (length extended))

  -- the stages of the values know of an order, and no other does
  judged : SameJudgement count k (judgement_in Point d count rows wanted extended) (judgement_in Column d count columns wanted extended)
  unfolding judgement_in numbers_judged stages
  judged =
      let by-description = same-stage count k (described.judgement_of Full d) (no_value d) in
      let by-count = same_test count k (count_fits count) (OutOfRange Count) (λ at channel e. impossible (cc)) in
      let by-values = same-judged 2 (stored d) count rows columns many same in
      let by-size = same_test count k small ExtendedSize (λ at channel e. impossible (cc)) in
      search (same-behind, by-description, by-count, by-values, by-size)

  put : (bytes out : List ℕ) (a b : Result ⊤ Refusal) → SameJudgement count k a b → SameWriting count k (put_where bytes out a) (put_where bytes out b)
  unfolding put_where
  put bytes out (Ok _) (Ok _) h = go (leb (length bytes) (length out))
    where
      room : (t : Bool) → Writing (Result ℕ Refusal)
      room t = cond t (writing (Ok (length bytes)) (puts out 0 bytes)) (writing (Err Room) out)

      go : (t : Bool) → SameWriting count k (room t) (room t)
      go true = record { answer = refl; bytes = refl }
      go false = record { answer = inl (refl, λ at channel e. impossible (cc)); bytes = refl }
  put bytes out (Ok _) (Err y) h = absurd h
  put bytes out (Err x) (Ok _) h = absurd h
  put bytes out (Err x) (Err y) h = record { answer = h; bytes = refl }

  one-record : record_in Point d count rows wanted extended ≡ record_in Column d count columns wanted extended
  unfolding record_in
  one-record = ap (λ points. record { description = d; points = points; extended = cond wanted (some extended) none }) (same_points count k rows columns same)

pub writes-the-same : WritesTheSame
unfolding write_in
writes-the-same d count rows columns wanted extended out many same =
    rw (one-record d count rows columns wanted extended many same)
    (put d count rows columns wanted extended many same (encode (record_in Column d count columns wanted extended)) out _ _ (judged d count rows columns wanted extended many same))
