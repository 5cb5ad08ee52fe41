-- The number that a template's writer names is the first out of its range: the stages that judge numbers stand in stored order, and the others say no 12.
use Rattle.std.specs.Prelude.{◌≡◌, Bool, cond, List, [], ◌∷◌, ◌++◌, ℕ, T, leb, length, drop, Result, Ok, Err, ⊤}
use Rattle.std.proofs.Common.{sym, ap, ◌∙◌}
use Rattle.std.proofs.Math.Bool.{true, false}
use Rattle.formats.specs.Bytes.{impossible}
use Rattle.formats.specs.Lent.{writing}
use Rattle.refusals.specs.Stages.{or_else, stages}
use Rattle.refusals.specs.Ranges.{first_misfit, FirstOutside}
use Rattle.refusals.proofs.RangeLaws.{joined, named-first, first-named}
use Rattle.refusals.specs.declared.Quantity.{Quantity}
use Rattle.refusals.specs.declared.Refusal.TheVariants.{OutOfRange, Room}
use Rattle.channels.specs.declared.Description.{Description}
use Rattle.channels.specs.declared.Format.TheVariants.{Compact}
use Rattle.descriptions.specs.Description.{includes_xy}
use Rattle.description_judging.specs.Judging as judging
use Rattle.description_judging.proofs.NamingLaws.{by-numbers, tidy-first}
use Rattle.templates.specs.Template.{encode}
use Rattle.templates.specs.Reading.{saying}
use Rattle.template_writing.specs.Writing.{description_stage, maximum_stage, in_room, put_where, judgement_of, write_of}
use Rattle.template_writing.specs.Naming.{numbers, NamesFirst, NamesEvery}
use Rattle.refusals.specs.declared.Refusal.{Refusal}

-- ---- The stages

-- behind 4 and 11 they are the description's numbers and the maximum, one behind the other
module _ (d : Description) (limited : Bool) (maximum : ℕ) (name : Quantity) where
  first : (described : Bool) → judgement_of described d limited maximum ≡ Err (OutOfRange name) → FirstOutside (numbers described d limited maximum) name
  unfolding judgement_of description_stage numbers first_misfit stages or_else
  first true e =
      let x = tidy-first Compact d (stages (maximum_stage limited maximum ∷ [])) name e in
      named-first (numbers true d limited maximum) name (joined (judging.numbers 1 d) _ ∙ (rw (by-numbers Compact d x.0 x.1) at e))
  first false e = named-first (numbers false d limited maximum) name e

  every : (described : Bool) → (T described → T (includes_xy d) × T (judging.neat_in Compact d)) → FirstOutside (numbers described d limited maximum) name → judgement_of described d limited maximum ≡ Err (OutOfRange name)
  unfolding judgement_of description_stage numbers first_misfit stages or_else
  every true h x = rw (by-numbers Compact d (h tt).0 (h tt).1) (sym (joined (judging.numbers 1 d) _) ∙ first-named (numbers true d limited maximum) name x)
  every false h x = first-named (numbers false d limited maximum) name x

-- ---- The answer

-- 12 is said by a stage: there is no other answer behind them but 15
by-a-stage : (j : Result ⊤ Refusal) (bytes out : List ℕ) (name : Quantity) → Err (OutOfRange name) ≡ (put_where j bytes out).answer → j ≡ Err (OutOfRange name)
unfolding put_where in_room
by-a-stage (Ok u) bytes out name e = go (leb (length bytes) (length out)) e
  where
    go : (t : Bool) → Err (OutOfRange name) ≡ (cond t (writing (Ok (length bytes)) (bytes ++ drop (length bytes) out)) (writing (Err Room) out)).answer → ◌≡◌ {A = Result ⊤ Refusal} (Ok u) (Err (OutOfRange name))
    go true k = impossible (cc)
    go false k = impossible (cc)
by-a-stage (Err refusal) bytes out name e = ap Err (cc)

pub names-first : NamesFirst
unfolding write_of
names-first described d limited maximum out kept name e =
    first d limited maximum name described (by-a-stage (judgement_of described d limited maximum) (encode (saying described d limited maximum)) out name (ap (λ v. v.answer) e))

pub names-every : NamesEvery
unfolding write_of put_where
names-every described d limited maximum out name h x = sym (rw (every d limited maximum name described h x))
