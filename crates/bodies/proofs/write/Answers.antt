-- `bodies::write` meets its contract: the template's rule decides, and then what is to be written.
use mathlib.Core.Path.{◌≡◌, ap, ◌∙◌}
use Rattle.templates.specs.Reading.{template_of}
use Rattle.bodies.specs.Writing.{write_by}
use Rattle.bodies.proofs.Writing.{write-refused, write-passed}
use Rattle.bodies.proofs.write.Goals as goal
use Rattle.bodies.proofs.write.Goals.{After-read-read}

-- what is said of the template that was read is said of its bytes
whole : (c : After-read-read) → let a = c.args in
    write_by c.read-read.result a.count a.values.now a.wanted a.out.now
    ≡ write_by (template_of a.template.now) a.count a.values.now a.wanted a.out.now
whole c = let a = c.args in ap (λ j. write_by j a.count a.values.now a.wanted a.out.now) c.read-read.ensures

pub returns-in-Err : goal.returns-in-Err
returns-in-Err c =
    write-refused _ _ c.rule_of-rule.ensures _ _ _ _ c.in-Err.is ∙ whole (goal.at.returns-in-Err c).After-read-read

pub returns : goal.returns
returns c =
    write-passed _ _ c.rule_of-rule.ensures _ _ _ _ c.in_default.is c.write_ruled.ensures ∙ whole (goal.at.returns c).After-read-read
