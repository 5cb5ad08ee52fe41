-- The number that a record's writer names is the first out of its range: the stages that judge numbers stand in stored order, and the others say no 12.
use Rattle.std.specs.Prelude.{◌≡◌, Bool, true, false, cond, not, ◌&&◌, List, [], ◌∷◌, ℕ, ◌*◌, T, eqb, leb, ℤ, length, Result, Ok, Err, ⊤}
use Rattle.std.proofs.Common.{sym, ap, ◌∙◌}
use borrow.Author.Tests.{eq-eqb}
use Rattle.std.proofs.Math.Dec.{ltb}
use Rattle.formats.specs.Bytes.{impossible}
use Rattle.formats.specs.Lent.{writing}
use Rattle.formats.specs.Put.{puts}
use Rattle.refusals.specs.Stages.{require, or_else, stages}
use Rattle.refusals.specs.Ranges.{first_misfit, FirstOutside}
use Rattle.refusals.proofs.RangeLaws.{joined, named-first, first-named}
use Rattle.refusals.specs.declared.Quantity.{Quantity}
use Rattle.refusals.specs.declared.Quantity.TheVariants.{Count}
use Rattle.refusals.specs.declared.Refusal.TheVariants.{OutOfRange, Amount, ExtendedSize, Room}
use Rattle.channels.specs.declared.Description.{Description}
use Rattle.descriptions.specs.Description.{includes_xy}
use Rattle.description_judging.specs.Judging as described
use Rattle.description_judging.proofs.NamingLaws.{by-numbers, tidy-first}
use Rattle.values.specs.Values as values
use Rattle.orders.specs.Orders.{size}
use Rattle.values.specs.Values.{samples}
use Rattle.orders.specs.declared.Order.{Order}
use Rattle.channels.specs.Descriptors.{stored}
use Rattle.channels.specs.declared.Format.TheVariants.{Full}
use Rattle.records.specs.Record.{encode}
use Rattle.record_writing.specs.Write.{record_in, count_fits, numbers_judged, judgement_in, put_where, write_in}
use Rattle.record_writing.specs.Naming.{numbers, NamesFirst, NamesEvery}
use Rattle.refusals.specs.declared.Refusal.{Refusal}

-- ---- The stages

-- what is left of them where 12 is said: the description's numbers, the count, and the sample values
in_order : (attributes : Result ⊤ Refusal) (counted amount : Bool) (sampled : Result ⊤ Refusal) (small : Bool) (name : Quantity)
    → or_else attributes (stages (require counted (OutOfRange Count) ∷ or_else (require amount Amount) sampled ∷ require small ExtendedSize ∷ [])) ≡ Err (OutOfRange name)
    → or_else attributes (or_else (require counted (OutOfRange Count)) sampled) ≡ Err (OutOfRange name)
unfolding stages or_else require
in_order (Err refusal) counted amount sampled small name e = e
in_order (Ok _) false amount sampled small name e = e
in_order (Ok _) true true (Err refusal) small name e = e
in_order (Ok _) true true (Ok _) true name e = impossible (cc)
in_order (Ok _) true true (Ok _) false name e = impossible (cc)
in_order (Ok _) true false sampled small name e = impossible (cc)

-- and they say it, where the amount is right
in-turn : (attributes : Result ⊤ Refusal) (counted : Bool) (sampled : Result ⊤ Refusal) (small : Bool) (name : Quantity)
    → or_else attributes (or_else (require counted (OutOfRange Count)) sampled) ≡ Err (OutOfRange name)
    → or_else attributes (stages (require counted (OutOfRange Count) ∷ or_else (require true Amount) sampled ∷ require small ExtendedSize ∷ [])) ≡ Err (OutOfRange name)
unfolding stages or_else require
in-turn (Err refusal) counted sampled small name e = e
in-turn (Ok _) false sampled small name e = e
in-turn (Ok _) true (Err refusal) small name e = e
in-turn (Ok _) true (Ok _) small name e = impossible (cc)

module _ (order : Order) (d : Description) (count : ℕ) (lent : List ℤ) (wanted : Bool) (extended : List ℕ) (name : Quantity) where
  abbrev attributes : Result ⊤ Refusal
  attributes = first_misfit (described.numbers 2 d)

  abbrev sampled : Result ⊤ Refusal
  sampled = first_misfit (samples 2 (stored d) order count lent)

  first : judgement_in order d count lent wanted extended ≡ Err (OutOfRange name) → FirstOutside (numbers order d count lent) name
  unfolding judgement_in values.judgement_of numbers_judged numbers first_misfit
  first e =
      let x = tidy-first Full d (numbers_judged order (stored d) count lent wanted extended) name e in
      let e' = rw (by-numbers Full d x.0 x.1) at e in
      named-first
      (numbers order d count lent)
      name
      (joined (described.numbers 2 d) _ ∙ in_order attributes (count_fits count) (eqb (length lent) (count * size (stored d))) sampled (not (wanted && ltb 65535 (length extended))) name e')

  every : T (includes_xy d) → T (described.neat_in Full d) → length lent ≡ count * size (stored d) → FirstOutside (numbers order d count lent) name → judgement_in order d count lent wanted extended ≡ Err (OutOfRange name)
  unfolding judgement_in values.judgement_of numbers_judged numbers first_misfit
  every xy neat amount x =
      rw (by-numbers Full d xy neat, eq-eqb (length lent) (count * size (stored d)) amount)
      (in-turn attributes (count_fits count) sampled (not (wanted && ltb 65535 (length extended))) name (sym (joined (described.numbers 2 d) _) ∙ first-named (numbers order d count lent) name x))

-- ---- The answer

-- 12 is said by a stage: there is no other answer behind them but 15
by-a-stage : (j : Result ⊤ Refusal) (bytes out : List ℕ) (name : Quantity) → Err (OutOfRange name) ≡ (put_where bytes out j).answer → j ≡ Err (OutOfRange name)
unfolding put_where
by-a-stage (Ok u) bytes out name e = go (leb (length bytes) (length out)) e
  where
    go : (t : Bool) → Err (OutOfRange name) ≡ (cond t (writing (Ok (length bytes)) (puts out 0 bytes)) (writing (Err Room) out)).answer → ◌≡◌ {A = Result ⊤ Refusal} (Ok u) (Err (OutOfRange name))
    go true k = impossible (cc)
    go false k = impossible (cc)
by-a-stage (Err refusal) bytes out name e = ap Err (cc)

pub names-first : NamesFirst
unfolding write_in
names-first order d count lent wanted extended out kept name e =
    first order d count lent wanted extended name (by-a-stage (judgement_in order d count lent wanted extended) (encode (record_in order d count lent wanted extended)) out name (ap (λ v. v.answer) e))

pub names-every : NamesEvery
unfolding write_in put_where
names-every order d count lent wanted extended out name xy neat amount x = sym (rw (every order d count lent wanted extended name xy neat amount x))
