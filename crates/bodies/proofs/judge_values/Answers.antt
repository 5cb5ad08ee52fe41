-- `bodies::judge_values` meets its contract: each test of the code is a stage of the definition.
use Rattle.std.specs.Prelude.{Err}
use mathlib.Core.Path.{◌≡◌, sym, ap, ◌∙◌}
use Rattle.refusals.specs.Stages.{require, or_else, stages, compactly}
use Rattle.points.specs.Points.{width}
use Rattle.orders.specs.declared.Order.TheVariants.{Point}
use Rattle.values.specs.Values.{judgement_of}
use Rattle.bodies.specs.Reading.{exceeds}
use Rattle.bodies.specs.Writing.{count_fits, judgement_by}
use Rattle.bodies.proofs.judge_values.Goals as goal
use Rattle.bodies.proofs.judge_values.Goals.{After-count_fits, After-exceeds, After-judge-judged}

-- the tests, as the definition has them
fits : (c : After-count_fits) → let a = c.args in count_fits a.count (width 1 a.stored) ≡ c.count_fits.result
fits c = sym (c.count_fits.ensures ∙ ap (count_fits c.args.count) c.width-width.ensures.0)

judged : (c : After-judge-judged) → let a = c.args in judgement_of 1 a.stored Point a.count a.values.now ≡ c.judge-judged.result
judged c = sym c.judge-judged.ensures

exceeded : (c : After-exceeds) → let a = c.args in exceeds a.limited a.maximum a.count ≡ c.exceeds.result
exceeded c = sym c.exceeds.ensures

pub returns-then-not-count_fits : goal.returns-then-not-count_fits
unfolding judgement_by stages or_else require
returns-then-not-count_fits c = rw (fits (goal.at.returns-then-not-count_fits c).After-count_fits ∙ c.if-not-count_fits.true)

pub returns-in-Err : goal.returns-in-Err
unfolding judgement_by stages or_else require compactly
returns-in-Err c =
    let v = (goal.at.returns-in-Err c).After-judge-judged in
    ap Err c.in_compact.ensures ∙ sym (rw (fits (goal.at.returns-in-Err c).After-count_fits ∙ c.if-not-count_fits.false, judged v ∙ c.in-Err.is))

pub returns-then-wanted : goal.returns-then-wanted
unfolding judgement_by stages or_else require compactly
returns-then-wanted c =
    let v = (goal.at.returns-then-wanted c).After-judge-judged in
    rw (fits (goal.at.returns-then-wanted c).After-count_fits ∙ c.if-not-count_fits.false, judged v ∙ c.in_default.is, c.if-wanted.true)

pub returns-then-exceeds : goal.returns-then-exceeds
unfolding judgement_by stages or_else require compactly
returns-then-exceeds c =
    let v = (goal.at.returns-then-exceeds c).After-judge-judged in
    rw (fits (goal.at.returns-then-exceeds c).After-count_fits ∙ c.if-not-count_fits.false, judged v ∙ c.in_default.is, c.if-wanted.false, exceeded (goal.at.returns-then-exceeds c).After-exceeds ∙ c.if-exceeds.true)

pub returns : goal.returns
unfolding judgement_by stages or_else require compactly
returns c =
    let v = (goal.at.returns c).After-judge-judged in
    rw (fits (goal.at.returns c).After-count_fits ∙ c.if-not-count_fits.false, judged v ∙ c.in_default.is, c.if-wanted.false, exceeded (goal.at.returns c).After-exceeds ∙ c.if-exceeds.false)
