-- `texts::Text::put_number` meets its contract: the last digit is put first. The invariant: the digits that are left make of the text what all make of it.
use mathlib.Core.Path.{ap, ◌∙◌}
use native.Mathlib.Omega.{arith}
use Rattle.texts.specs.Gathered.{Gathered}
use Rattle.texts.specs.JoiningLaws.{digits_last, number-joined}
use Rattle.texts.proofs.Text.put_number.Goals as goal

pub loop-at-preserved : goal.loop-at-preserved
loop-at-preserved c = c.loop-at.invariant ∙ digits_last c.loop-at.self-inside.bytes c.self.inside.used c.loop-at.at c.loop-at.rest (omega arith)

pub returns : goal.returns
returns c =
    let roomy = c.self.view_is ∙ c.make_room.ensures.text in
    let used = ap (λ (t : Gathered). t.used) c.self.view_is in
    let bytes = ap (λ (t : Gathered). t.bytes) roomy in
    number-joined
    c.args.self.now.bytes
    c.loop-at.self-inside.bytes
    c.args.self.now.used
    c.self.inside.used
    c.digit_count.result
    c.args.number
    c.loop-at.at
    c.loop-at.rest
    (ap (λ (t : Gathered). t.used) roomy)
    c.digit_count.ensures.0
    (omega (arith, used))
    (omega arith)
    (rw bytes at c.loop-at.invariant)
