-- `turning::judge_body` meets its contract: each test of the code is a stage of the definition, and the stages that it has none for are passed by every record.
use Rattle.std.specs.Prelude.{Err}
use mathlib.Core.Path.{◌≡◌, sym, ap, ◌∙◌}
use mathlib.Core.List.{List}
use Prim.Native.Nat.{ℕ}
use lib.IntN.{ℤ}
use Rattle.formats.specs.Reader.{ok, read_at, times}
use Rattle.refusals.specs.Stages.{require, or_else, stages, compactly}
use Rattle.points.specs.Points.{point, width}
use Rattle.orders.specs.Orders.{size, values_of}
use Rattle.orders.specs.declared.Order.TheVariants.{Point}
use Rattle.values.specs.Values.{judgement_of}
use Rattle.bodies.specs.Reading.{exceeds}
use Rattle.bodies.specs.Writing.{count_fits, judgement_by}
use Rattle.turning.specs.Turning.{body_judgement}
use Rattle.turning.proofs.Judging.{values-judged}
use Rattle.turning.proofs.judge_body.Goals as goal
use Rattle.turning.proofs.judge_body.Goals.{After-count_fits, After-judge_points-judged, In_default, Start}

-- the tests, as the definition has them
fits : (c : After-count_fits) → let a = c.args in count_fits a.count (width 1 a.stored) ≡ c.count_fits.result
fits c = sym (c.count_fits.ensures ∙ ap (count_fits c.args.count) c.width.ensures.0)

judged : (c : After-judge_points-judged) (points : List (List ℤ)) (end : ℕ)
    → let a = c.args in
    read_at (times a.count (point 2 a.stored)) a.whole.now a.start ≡ ok points end
    → judgement_of 1 a.stored Point a.count (values_of Point (size a.stored) points) ≡ c.judge_points-judged.result
judged c points end e =
    let s = (goal.at.After-judge_points-judged c).Start in
    values-judged s.args.whole.now s.args.start s.args.stored s.args.count points end s.requires.0 e ∙ sym (c.judge_points-judged.ensures points end e)

pub returns-then-not-count_fits : goal.returns-then-not-count_fits
unfolding body_judgement judgement_by stages or_else require
returns-then-not-count_fits c points end e = rw (fits (goal.at.returns-then-not-count_fits c).After-count_fits ∙ c.if-not-count_fits.true)

pub returns-in-Err : goal.returns-in-Err
unfolding body_judgement judgement_by stages or_else require compactly
returns-in-Err c points end e =
    let j = c in
    let v = (goal.at.returns-in-Err j).After-judge_points-judged in
    ap Err c.in_compact.ensures ∙ sym (rw (fits (goal.at.After-judge_points-judged v).After-count_fits ∙ v.if-not-count_fits.false, judged v points end e ∙ j.in-Err.is))

pub returns : goal.returns
unfolding body_judgement judgement_by stages or_else require compactly exceeds
returns c points end e =
    let p = (goal.at.returns c).In_default in
    let v = (goal.at.In_default p).After-judge_points-judged in
    rw (fits (goal.at.After-judge_points-judged v).After-count_fits ∙ v.if-not-count_fits.false, judged v points end e ∙ p.in_default.is, c.if-extended.false)

pub returns-then-extended : goal.returns-then-extended
unfolding body_judgement judgement_by stages or_else require compactly
returns-then-extended c points end e =
    let p = (goal.at.returns-then-extended c).In_default in
    let v = (goal.at.In_default p).After-judge_points-judged in
    rw (fits (goal.at.After-judge_points-judged v).After-count_fits ∙ v.if-not-count_fits.false, judged v points end e ∙ p.in_default.is, c.if-extended.true)
