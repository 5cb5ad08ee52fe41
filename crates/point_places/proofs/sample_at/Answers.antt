-- `point_places::sample_at` meets its contract: each test of the code decides what the reader of a number answers.
use mathlib.Core.Path.{◌≡◌, sym, ap, ◌∙◌}
use native.Mathlib.Omega.{arith}
use mir.Syntax.{w32}
use mir.ValLaws.{to_z-of_z}
use Rattle.channels.specs.Channel.{width_of}
use Rattle.stored_numbers.specs.NumberLaws.{number_read}
use Rattle.tip_switch.specs.Switch.{state-found, state-refused}
use Rattle.point_places.specs.Parts.{sampled}
use Rattle.points.specs.SampleLaws.{one-or-two, sample-none, switch-ok, switch-bad, wide_short, wide_ok}
use borrow.Author.Rules.{rules}
use Rattle.point_places.proofs.sample_at.Goals as goal
use Rattle.point_places.proofs.sample_at.Goals.{After-is_signed, After-number_at-number, After-state_of, After-width-size}

pub returns-then-bytes-at : goal.returns-then-bytes-at
unfolding sampled
returns-then-bytes-at c =
    let a = c.args in
    sym (ap sampled (sample-none (width_of a.format) a.bytes.now a.at a.channel (one-or-two a.format).0 (omega arith)))

-- any other channel has as many bytes as the format says
sized : (c : After-width-size) → c.width-size.result ≡ width_of c.args.format
sized c = c.width-size.ensures.0

pub returns-then-bytes-at-2 : goal.returns-then-bytes-at-2
unfolding sampled
returns-then-bytes-at-2 c = sym (ap sampled (wide_short _ _ _ _ c.if-channel-eq-S.false (omega (arith, sized (goal.at.returns-then-bytes-at-2 c).After-width-size))))

pub returns-in-Some : goal.returns-in-Some
unfolding sampled
returns-in-Some c =
    let m = (goal.at.returns-in-Some c).After-state_of in
    let f = state-found _ (sym m.state_of.ensures ∙ c.in-Some.is) in
    rw (to_z-of_z w32 c.in-Some.value (search rules), ← f.1) (sym (ap sampled (switch-ok _ _ _ _ m.if-channel-eq-S.true (omega arith) f.0)))

pub returns-in-None : goal.returns-in-None
unfolding sampled
returns-in-None c =
    let m = (goal.at.returns-in-None c).After-state_of in
    let f = state-refused _ (sym m.state_of.ensures ∙ c.in-None.is) in
    sym (ap sampled (switch-bad _ _ _ _ m.if-channel-eq-S.true (omega arith) f))

pub returns-else-bytes-at-2 : goal.returns-else-bytes-at-2
unfolding sampled
returns-else-bytes-at-2 c =
    let g = (goal.at.returns-else-bytes-at-2 c).After-is_signed in
    let n = (goal.at.After-is_signed g).After-number_at-number in
    let z = (goal.at.After-number_at-number n).After-width-size in
    rw (to_z-of_z w32 c.value_of-value.result (search rules), c.value_of-value.ensures, g.is_signed.ensures, sized z)
    (sym (ap sampled (wide_ok _ _ _ _ z.if-channel-eq-S.false (number_read _ _ _ (omega (arith, sized z)) n.number_at-number.ensures))))
