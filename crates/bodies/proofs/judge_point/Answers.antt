-- `bodies::judge_point` meets its contract: the template's rule decides, and then the verdict on the body.
use mathlib.Core.Path.{◌≡◌, refl, ap, ◌∙◌}
use Rattle.templates.specs.Reading.{template_of}
use Rattle.bodies.specs.Reading.{pointed_by}
use Rattle.bodies.proofs.Bodies.{pointed-refused, pointed-passed}
use Rattle.bodies.proofs.judge_point.Goals as goal
use Rattle.bodies.proofs.judge_point.Goals.{After-read-read}

-- what is said of the template that was read is said of its bytes
whole : (c : After-read-read) → let a = c.args in
    pointed_by a.index c.read-read.result a.body.now ≡ pointed_by a.index (template_of a.template.now) a.body.now
whole c = let a = c.args in ap (λ j. pointed_by a.index j a.body.now) c.read-read.ensures

pub returns-in-Err : goal.returns-in-Err
returns-in-Err c =
    pointed-refused _ _ _ c.rule_of-rule.ensures c.in-Err.is _ ∙ whole (goal.at.returns-in-Err c).After-read-read

pub returns : goal.returns
returns c =
    c.pointed_at.ensures ∙ pointed-passed _ _ _ c.rule_of-rule.ensures c.in_default.is c.verdict_by-verdict.ensures refl _ ∙ whole (goal.at.returns c).After-read-read
