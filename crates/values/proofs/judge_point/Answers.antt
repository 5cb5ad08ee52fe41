-- `values::judge_point` meets its contract. The invariant: of the whole point is told what is told of the numbers left, which are among the values.
use Rattle.std.specs.Prelude.{Option}
use mathlib.Core.Path.{◌≡◌, refl, sym, ◌∙◌}
use mathlib.Core.Bool.{Bool, true, false}
use mathlib.Core.List.{List}
use Prim.Native.Nat.{ℕ, ◌<◌, ◌+◌}
use native.Mathlib.Omega.{arith}
use borrow.Author.Rules.{rules}
use lib.IntN.{ℤ, pos}
use lib.ListN.{length, get_or}
use mir.Syntax.{w32}
use mir.Val.{SFits, to_z, of_z}
use mir.ValLaws.{to_z-of_z}
use Rattle.refusals.specs.Stages.{require, or_else}
use Rattle.refusals.specs.declared.Quantity.TheVariants.{Value}
use Rattle.refusals.specs.declared.Refusal.TheVariants.{OutOfRange}
use Rattle.channels.specs.Channel.{width_of}
use Rattle.points.specs.Points.{channels, fits_sample}
use Rattle.values.specs.Values.{stored_sample}
use Rattle.orders.specs.Parts.{many}
use Rattle.values.proofs.Lent.{judge_left, pass-judged, pass-inside, Taken, take-inside, take-judged, judged-none, fits-number, fits-outside}
use Rattle.values.proofs.judge_point.Goals as goal
use Rattle.values.proofs.judge_point.Goals.{After-stored_sample, At-loop-channel, In-loop-channel, Start, then-stored-channel+in-Some, else-stored-channel}

sixteen : (s : Start) → length s.args.stored.now ≡ 16
sixteen s = s.requires.0

pub loop-channel-init : goal.loop-channel-init
unfolding many judge_left channels
loop-channel-init c = (c.requires.2, refl)

-- the next number is there
module _ (turn : In-loop-channel) where
  abbrev w : ℕ
  w = width_of turn.args.format

  abbrev d : ℕ
  d = turn.args.stride

  abbrev stored : List Bool
  stored = turn.args.stored.now

  abbrev values : List ℤ
  values = turn.args.values.now

  abbrev channel : ℕ
  channel = turn.loop-channel.channel

  abbrev index : ℕ
  index = turn.loop-channel.index

  within : channel < length stored
  within = omega (arith, sixteen (goal.at.In-loop-channel turn).Start)

  taken : get_or stored channel false ≡ true → Taken values d stored channel index within turn.loop-channel.invariant.0
  taken e = take-inside values d stored channel index within turn.loop-channel.invariant.0 e

  judged : get_or stored channel false ≡ true → judge_left w d stored values channel index ≡ or_else (require (fits_sample w channel (get_or values index (pos 0))) (OutOfRange (Value index channel))) (judge_left w d stored values (channel + 1) (index + d))
  judged e = take-judged w d stored values channel index within e

pub offset_bounds-values-index : goal.offset_bounds-values-index
offset_bounds-values-index c = let h = (taken (goal.at.offset_bounds-values-index c).In-loop-channel c.if-stored-channel.true).there in search rules

pub bounds-values-index : goal.bounds-values-index
bounds-values-index c = (taken (goal.at.bounds-values-index c).In-loop-channel c.if-stored-channel.true).there

-- what is stored for it
found : (t : In-loop-channel) → SFits w32 (get_or (values t) (index t) (pos 0)) → (r : Option ℕ) → r ≡ stored_sample (w t) (channel t) (to_z w32 (of_z w32 (get_or (values t) (index t) (pos 0)))) → r ≡ stored_sample (w t) (channel t) (get_or (values t) (index t) (pos 0))
found t q r x = x ∙ rw (to_z-of_z w32 (get_or (values t) (index t) (pos 0)) q)

pub returns-in-None : goal.returns-in-None
unfolding or_else require
returns-in-None c =
    let s = (goal.at.returns-in-None c).After-stored_sample in
    let t = (goal.at.After-stored_sample s).In-loop-channel in
    let f = fits-outside (w t) (channel t) _ (sym (found t (search rules) _ s.stored_sample.ensures) ∙ c.in-None.is) in
    sym (t.loop-channel.invariant.1 ∙ judged t s.if-stored-channel.true ∙ rw f)

pub overflow_add-index : goal.overflow_add-index
overflow_add-index c = let h = (taken (goal.at.overflow_add-index c).In-loop-channel c.if-stored-channel.true).there in record { fits = omega arith }

pub loop-channel-preserved : goal.loop-channel-preserved
unfolding or_else require
loop-channel-preserved c =
    let l = (goal.at.loop-channel-preserved c).In-loop-channel in
    let a = l.args in
    elim c.if-stored-channel.branch [
      | then-stored-channel+in-Some x ↦
          let e = x.if-stored-channel.true in
          let f = fits-number (w l) (channel l) _ (sym (found l (search rules) _ x.stored_sample.ensures) ∙ x.in-Some.is) in
          rw x.index-is ((taken l e).rest, l.loop-channel.invariant.1 ∙ judged l e ∙ rw f)
      | else-stored-channel x ↦
          let h : l.loop-channel.channel < length a.stored.now = omega (arith, sixteen (goal.at.In-loop-channel l).Start) in
          let e = x.if-stored-channel.false in
          rw x.index-is (
            pass-inside a.values.now a.stride a.stored.now l.loop-channel.channel l.loop-channel.index h l.loop-channel.invariant.0 e,
            l.loop-channel.invariant.1 ∙ pass-judged (width_of a.format) a.stride a.stored.now a.values.now l.loop-channel.channel l.loop-channel.index h e,
          )
    ]

pub returns : goal.returns
returns c =
    let l = (goal.at.returns c).At-loop-channel in
    let a = l.args in
    sym (l.loop-channel.invariant.1 ∙ judged-none (width_of a.format) a.stride a.stored.now a.values.now l.loop-channel.channel l.loop-channel.index (omega (arith, sixteen (goal.at.At-loop-channel l).Start)))
