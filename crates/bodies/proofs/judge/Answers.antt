-- `bodies::judge` meets its contract: the template's rule decides, then the verdict on the body, and only a body has a description.
use mathlib.Core.Path.{◌≡◌, ap, ◌∙◌}
use Rattle.templates.specs.Reading.{template_of}
use Rattle.bodies.specs.Reading.{judged_by}
use Rattle.bodies.proofs.Bodies.{judged-refused, judged-faulty, judged-body}
use Rattle.bodies.proofs.judge.Goals as goal
use Rattle.bodies.proofs.judge.Goals.{After-read-read}

-- what is said of the template that was read is said of its bytes
whole : (c : After-read-read) → let a = c.args in
    judged_by c.read-read.result a.body.now ≡ judged_by (template_of a.template.now) a.body.now
whole c = ap (λ j. judged_by j c.args.body.now) c.read-read.ensures

pub returns-in-Err : goal.returns-in-Err
returns-in-Err c =
    c.unjudged.ensures ∙ judged-refused _ _ _ c.rule_of-rule.ensures c.in-Err.is ∙ whole (goal.at.returns-in-Err c).After-read-read

pub returns-in-Err-verdict : goal.returns-in-Err-verdict
returns-in-Err-verdict c =
    c.unjudged-in-Err-verdict.ensures ∙ judged-faulty _ _ _ c.rule_of-rule.ensures c.in_default.is c.verdict_by-verdict.ensures c.in-Err-verdict.is ∙ whole (goal.at.returns-in-Err-verdict c).After-read-read

pub returns : goal.returns
returns c =
    judged-body _ _ _ c.rule_of-rule.ensures c.in_default.is c.verdict_by-verdict.ensures c.in_default-verdict.not-Err ∙ whole (goal.at.returns c).After-read-read
