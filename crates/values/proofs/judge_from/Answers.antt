-- `values::judge_from` meets its contract. The invariant: of all points is told what is told of those left.
use borrow.Author.Rules.{rules}
use Rattle.std.specs.Prelude.{Result, Err, ⊤}
use mathlib.Core.Path.{◌≡◌, sym, ap, ◌∙◌}
use Prim.Native.Nat.{◌-◌, ◌+◌}
use native.Mathlib.Nat.{sub-zero}
use native.Mathlib.Omega.{arith}
use Rattle.refusals.specs.Stages.{or_else}
use Rattle.refusals.specs.Ranges.{first_misfit}
use Rattle.channels.specs.Channel.{width_of}
use Rattle.points.specs.Points.{channels}
use Rattle.orders.specs.Orders.{size}
use Rattle.values.specs.Values.{samples_in, samples_from}
use Rattle.values.proofs.Lent.{NextPoint, next-point, next-judged, last-judged}
use Rattle.values.proofs.judge_from.Goals as goal
use Rattle.values.proofs.judge_from.Goals.{After-judge_point, In-loop, Start}
use Rattle.refusals.specs.declared.Refusal.{Refusal}

pub loop-init : goal.loop-init
loop-init c = (simp sub-zero c.requires.4, simp sub-zero)

-- the next point's numbers are among the values
module _ (c : In-loop) where
  abbrev start : Start
  start = (goal.at.In-loop c).Start

  next : NextPoint start.args.values.now start.args.stride (size start.args.stored.now) start.args.step (start.args.count - (c.loop.counter + 1)) c.loop.from
  next = next-point _ _ _ _ start.args.count c.loop.counter _ c.loop-test.true start.requires.3 c.loop.invariant.0

  abbrev here : Result ⊤ Refusal
  here = first_misfit (samples_in (width_of start.args.format) start.args.stride (channels start.args.stored.now) start.args.values.now c.loop.from)

  abbrev later : Result ⊤ Refusal
  later = first_misfit (samples_from (width_of start.args.format) start.args.stride (channels start.args.stored.now) start.args.values.now start.args.step (start.args.count - (c.loop.counter + 1)) (c.loop.from + start.args.step))

  judged : {f : Result ⊤ Refusal} → here ≡ f → first_misfit (samples_from (width_of start.args.format) start.args.stride (channels start.args.stored.now) start.args.values.now start.args.step start.args.count 0) ≡ or_else f later
  judged e = c.loop.invariant.1 ∙ next-judged _ _ _ _ _ start.args.count c.loop.counter _ c.loop-test.true ∙ ap (λ f. or_else f later) e

pub judge_point-requires : goal.judge_point-requires
judge_point-requires c = let s = (goal.at.judge_point-requires c).Start in (s.requires.0, s.requires.1, (next c).inside)

pub returns-in_err-judge_point : goal.returns-in_err-judge_point
unfolding or_else
returns-in_err-judge_point c =
    let x = (goal.at.returns-in_err-judge_point c).After-judge_point in
    let gone : c.from_residual.result ≡ Err c.in_err-judge_point.field-0.0 = search rules in
    gone ∙ sym (judged (goal.at.After-judge_point x).In-loop (sym x.judge_point.ensures ∙ c.in_err-judge_point.was))

pub overflow_add-from : goal.overflow_add-from
overflow_add-from c = let h = (next (goal.at.overflow_add-from c).In-loop).there in record { fits = omega arith }

pub loop-preserved : goal.loop-preserved
unfolding or_else
loop-preserved c =
    let x = (goal.at.loop-preserved c).After-judge_point in
    ((next (goal.at.After-judge_point x).In-loop).rest, judged (goal.at.After-judge_point x).In-loop (sym x.judge_point.ensures ∙ c.in_ok-judge_point.was))

pub returns : goal.returns
returns c = sym (c.loop.invariant.1 ∙ last-judged _ _ _ _ _ _ _ _ c.loop-test.false)
