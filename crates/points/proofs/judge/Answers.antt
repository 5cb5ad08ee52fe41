-- `points::judge` meets its contract.
use mathlib.Core.Path.{◌≡◌, sym, ◌∙◌}
use native.Mathlib.Omega.{arith}
use Rattle.channels.specs.Channel.{width_of}
use Rattle.points.specs.Points.{channels, width}
use Rattle.points.specs.SampleLaws.{one-or-two}
use Rattle.points.proofs.Past.{none_told, empty-told, past-told}
use Rattle.points.proofs.judge.Goals as goal
use Rattle.points.proofs.judge.Goals.{After-width_from}

pub returns-then-count-eq0 : goal.returns-then-count-eq0
returns-then-count-eq0 c =
    let a = c.args in
    sym (none_told (width_of a.format) (one-or-two a.format).0 a.bytes.now a.start a.stored a.count c.if-count-eq0.true)

wide : (c : After-width_from) → c.width_from.result ≡ width (width_of c.args.format) c.args.stored
unfolding width channels
wide c = c.width_from.ensures.0

pub returns-then-width_from-eq0 : goal.returns-then-width_from-eq0
returns-then-width_from-eq0 c =
    let a = c.args in
    sym (empty-told (width_of a.format) (one-or-two a.format).0 a.bytes.now a.start a.stored a.count (sym (wide (goal.at.returns-then-width_from-eq0 c).After-width_from) ∙ c.if-width_from-eq0.true))

pub returns : goal.returns
returns c =
    let a = c.args in
    sym (past-told (width_of a.format) (one-or-two a.format).0 a.bytes.now a.start (omega arith) a.stored a.count (omega arith) (omega (arith, wide (goal.at.returns c).After-width_from)))
