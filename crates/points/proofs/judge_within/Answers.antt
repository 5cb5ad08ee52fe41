-- `points::judge_within` meets its contract: points with a switch are walked, others are passed over at once.
use mathlib.Core.Path.{◌≡◌, sym, ◌∙◌}
use Prim.Native.Nat.{◌-◌, ◌≤◌, ◌<◌}
use native.Mathlib.Omega.{arith}
use Rattle.channels.specs.Channel.{width_of}
use Rattle.points.specs.Points.{channels, width}
use Rattle.points.proofs.Samples.{points-jump}
use Rattle.points.proofs.Walk.{switch-inside, switch-points}
use borrow.Author.Rules.{rules}
use Rattle.points.proofs.judge_within.Goals as goal
use Rattle.points.proofs.judge_within.Goals.{After-width_from, After-width_from-width, Else-stored}

-- the switch is stored, and its offset lies within the point
wide : (c : After-width_from-width) → c.width_from-width.result ≡ width (width_of c.args.format) c.args.stored
unfolding width channels
wide c = c.width_from-width.ensures.0

inside : (c : After-width_from)
    → (c.width_from.result ≤ c.width_from-width.result)
    × (c.width_from-width.result - c.width_from.result < c.width_from-width.result)
inside c = switch-inside _ _ c.if-stored.true _ _ (wide (goal.at.After-width_from c).After-width_from-width) c.width_from.ensures.0

pub overflow_sub-offset : goal.overflow_sub-offset
overflow_sub-offset c = (inside c).0

pub walk_points-requires : goal.walk_points-requires
walk_points-requires c = (omega arith, (inside c).1, omega arith)

pub returns-then-stored : goal.returns-then-stored
returns-then-stored c =
    let w = (goal.at.returns-then-stored c).After-width_from in
    c.walk_points.ensures
    ∙ sym (switch-points _ _ w.if-stored.true _ _ (wide (goal.at.After-width_from w).After-width_from-width) w.width_from.ensures.0 _ _ _ (search rules))

pub returns : goal.returns
returns c =
    let n = (goal.at.returns c).Else-stored in
    let w = (goal.at.Else-stored n).After-width_from-width in
    let a = w.args in
    c.jump.ensures ∙ rw (wide w) (sym (points-jump (width_of a.format) a.stored a.count n.if-stored.false a.bytes.now a.start (search rules)))
