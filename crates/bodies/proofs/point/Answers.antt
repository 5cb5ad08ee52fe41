-- `bodies::point` meets its contract: points of one width stand at even distances, and where there is none the flags are those of no channel.
use mathlib.Core.Path.{◌≡◌, sym, ap, ◌∙◌}
use native.Mathlib.Omega.{arith}
use Rattle.templates.specs.Reading.{template_of}
use Rattle.bodies.specs.Reading.{rule_of}
use Rattle.bodies.proofs.Pointing.{Shown, shown-there, shown-none, point-within}
use Rattle.bodies.proofs.point.Goals as goal
use Rattle.bodies.proofs.point.Goals.{After-rule_of-rule, Joined-pointed, in-Ok, in_default}

-- the rule is that of the template's bytes
rule : (c : After-rule_of-rule) → c.rule_of-rule.result ≡ rule_of (template_of c.args.template.now)
rule c = c.rule_of-rule.ensures ∙ ap rule_of c.read-read.ensures

pub overflow_mul-start : goal.overflow_mul-start
overflow_mul-start c =
    let z = point-within _ _ _ (sym c.judge_point-pointed.ensures ∙ c.in-Ok.is) _ (rule (goal.at.overflow_mul-start c).After-rule_of-rule) c.width.ensures.0 in
    record { fits = omega (arith, z, c.well_formed.1.0) }

-- where the ways meet, the places are read by the flags of the template, or of no channel
shown : (c : Joined-pointed) → let a = c.args in
    Shown a.index (template_of a.template.now) a.body.now c.match-pointed.included c.match-pointed.stored c.match-pointed.start
shown c =
    let r = rule (goal.at.Joined-pointed c).After-rule_of-rule in
    elim c.match-pointed.branch [
      | in-Ok w ↦
          rw (w.included-is, w.stored-is, w.start-is) (shown-there _ _ _ (sym c.judge_point-pointed.ensures ∙ w.in-Ok.is) _ r w.width.ensures.0)
      | in_default w ↦ rw (w.included-is, w.stored-is, w.start-is) (shown-none _ _ _ c.judge_point-pointed.ensures (w.in_default.not-Ok tt))
    ]

pub returns : goal.returns
returns c = c.places.ensures ∙ shown (goal.at.returns c).Joined-pointed
