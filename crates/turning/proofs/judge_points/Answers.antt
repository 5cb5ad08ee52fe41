-- `turning::judge_points` meets its contract. The invariant: of all points is told what is told of those left, the first of which stands here.
use borrow.Author.Rules.{rules}
use Rattle.std.specs.Prelude.{Result, Err, ⊤}
use mathlib.Core.Path.{◌≡◌, sym, ap, ap₂, ◌∙◌}
use mathlib.Core.Bool.{Bool}
use mathlib.Core.List.{List}
use Prim.Native.Nat.{ℕ, ◌≤◌, ◌+◌, ◌*◌}
use native.Mathlib.Omega.{arith}
use lib.IntN.{ℤ}
use lib.ListN.{length}
use Rattle.formats.specs.Reader.{ok, read_at, times}
use Rattle.refusals.specs.Stages.{or_else}
use Rattle.refusals.specs.Ranges.{first_misfit}
use Rattle.points.specs.Points.{point, width}
use Rattle.point_places.specs.Places.{places_in}
use Rattle.orders.specs.Orders.{size, values_of}
use Rattle.orders.specs.declared.Order.TheVariants.{Point}
use Rattle.values.specs.Values.{samples}
use Rattle.turning.specs.Parts.{misfit_in}
use Rattle.turning.proofs.Judging.{misfit_left, all_left, none_left, next-left}
use Rattle.turning.proofs.Standing.{ith-within}
use Rattle.turning.proofs.judge_points.Goals as goal
use Rattle.turning.proofs.judge_points.Goals.{After-judge_places, At-loop, Start}
use Rattle.refusals.specs.declared.Refusal.{Refusal}

pub loop-init : goal.loop-init
loop-init c =
    let a = c.args in
    (omega arith, omega arith, omega arith, (λ points end e. all_left a.stored a.count points))

pub judge_places-requires : goal.judge_places-requires
judge_places-requires c = omega arith

-- the next point
module _ (c : After-judge_places) where
  abbrev turn : At-loop
  turn = (goal.at.After-judge_places c).At-loop

  abbrev start : Start
  start = (goal.at.At-loop turn).Start

  abbrev whole : List ℕ
  whole = start.args.whole.now

  abbrev stored : List Bool
  stored = start.args.stored

  abbrev i : ℕ
  i = turn.loop.counter

  -- it stands here, and ends inside the slice
  stands : turn.loop.at ≡ start.args.start + i * width 2 stored
  stands = turn.loop.invariant.0 ∙ ap (λ w. start.args.start + i * w) turn.width-width.ensures.0

  inside : turn.loop.at + turn.width-width.result ≤ length whole
  inside =
      omega (
        arith,
        stands,
        turn.width-width.ensures.0,
        ith-within whole start.args.start stored start.args.count start.requires.2.0 start.requires.2.1 start.requires.0 start.requires.2.2 i c.loop-test.true,
      )

  -- what is told of it, and so of all
  here : c.judge_places.result ≡ misfit_in 0 (i * size stored) (places_in stored stored (read_at (point 2 stored) whole (start.args.start + i * width 2 stored)))
  here =
      c.judge_places.ensures
      ∙ ap₂ (misfit_in 0)
      (turn.loop.invariant.1 ∙ ap (λ k. i * k) turn.size-size.ensures.0)
      (c.places-places.ensures ∙ ap (λ at. places_in stored stored (read_at (point 2 stored) whole at)) stands)

  judged : {f : Result ⊤ Refusal} → c.judge_places.result ≡ f
      → (points : List (List ℤ)) (end : ℕ) → read_at (times start.args.count (point 2 stored)) whole start.args.start ≡ ok points end
      → first_misfit (samples 1 stored Point start.args.count (values_of Point (size stored) points)) ≡ or_else f (misfit_left stored start.args.count points (i + 1))
  judged g points end e =
      turn.loop.invariant.3 points end e
      ∙ next-left whole start.args.start stored start.args.count points end start.requires.0 e i c.loop-test.true
      ∙ ap (λ f. or_else f (misfit_left stored start.args.count points (i + 1))) (sym here ∙ g)

pub returns-in_err-judge_places : goal.returns-in_err-judge_places
unfolding or_else
returns-in_err-judge_places c points end e =
    let gone : c.from_residual.result ≡ Err c.in_err-judge_places.field-0.0 = search rules in
    gone ∙ sym (judged (goal.at.returns-in_err-judge_places c).After-judge_places c.in_err-judge_places.was points end e)

pub overflow_add-at : goal.overflow_add-at
overflow_add-at c = let h = inside (goal.at.overflow_add-at c).After-judge_places in record { fits = omega arith }

pub overflow_add-from : goal.overflow_add-from
overflow_add-from c = record { fits = omega arith }

pub loop-preserved : goal.loop-preserved
unfolding or_else
loop-preserved c = (omega arith, omega arith, omega arith, judged (goal.at.loop-preserved c).After-judge_places c.in_ok-judge_places.was)

pub returns : goal.returns
returns c points end e =
    let l = (goal.at.returns c).At-loop in
    let a = l.args in
    sym (l.loop.invariant.3 points end e ∙ none_left a.stored a.count points l.loop.counter c.loop-test.false)
