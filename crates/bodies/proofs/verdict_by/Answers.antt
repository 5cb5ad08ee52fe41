-- `bodies::verdict_by` meets its contract: as many points are read as the bytes begin, so what reading them was told as is the body's own answer.
use Rattle.std.specs.Prelude.{Err}
use mathlib.Core.Path.{◌≡◌, ap, ◌∙◌}
use lib.ListN.{length}
use Rattle.points.specs.Points.{width}
use Rattle.bodies.specs.Body as meant
use Rattle.bodies.proofs.Bodies.{verdict-failed, verdict-left-over, verdict-maximum, verdict-body}
use Rattle.bodies.proofs.verdict_by.Goals as goal
use Rattle.bodies.proofs.verdict_by.Goals.{After-begun-count, After-judge-outcome}
use Rattle.bodies.specs.declared.Refused.TheVariants as whose

-- the count is that of the points that the bytes begin
counted : (c : After-begun-count) → let a = c.args in
    c.begun-count.result ≡ meant.begun (width 1 a.stored) (length a.body.now)
counted c = c.begun-count.ensures ∙ ap (λ w. meant.begun w (length c.args.body.now)) c.width-width.ensures.0

pub returns-then-end-body : goal.returns-then-end-body
returns-then-end-body c =
    let j = (goal.at.returns-then-end-body c).After-judge-outcome in
    verdict-left-over _ _ _ (counted (goal.at.After-judge-outcome j).After-begun-count) _ j.judge-outcome.ensures _ _ c.in-Ok.is c.if-end-body.true

pub returns-then-exceeds : goal.returns-then-exceeds
returns-then-exceeds c =
    let j = (goal.at.returns-then-exceeds c).After-judge-outcome in
    verdict-maximum _ _ _ (counted (goal.at.After-judge-outcome j).After-begun-count) _ j.judge-outcome.ensures _ _ c.in-Ok.is c.if-end-body.false c.exceeds.ensures c.if-exceeds.true

pub returns-in-Err : goal.returns-in-Err
returns-in-Err c =
    let j = (goal.at.returns-in-Err c).After-judge-outcome in
    ap (λ r. Err (whose.Body r)) c.of.ensures ∙ verdict-failed _ _ _ (counted (goal.at.After-judge-outcome j).After-begun-count) _ j.judge-outcome.ensures _ _ c.in-Err.is

pub returns-else-exceeds : goal.returns-else-exceeds
returns-else-exceeds c =
    let j = (goal.at.returns-else-exceeds c).After-judge-outcome in
    verdict-body _ _ _ (counted (goal.at.After-judge-outcome j).After-begun-count) _ j.judge-outcome.ensures _ _ c.in-Ok.is c.if-end-body.false c.exceeds.ensures c.if-exceeds.false
