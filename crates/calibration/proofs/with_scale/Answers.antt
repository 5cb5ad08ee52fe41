-- `calibration::with_scale` meets its contract: by what the numbers' judgement is. Assumes nothing.
use mathlib.Core.Path.{◌≡◌, sym, ap, ◌∙◌}
use lib.IntN.{ℤ}
use borrow.Author.Rules.{rules}
use Rattle.std.specs.Prelude.{Err}
use mir.Facts.{to_z-of_z}
use Rattle.refusals.specs.Ranges.{first_misfit}
use Rattle.calibration.specs.Reading.{numbers, value, read_where, reading, operands}
use Rattle.calibration.proofs.with_scale.Goals as goal
use Rattle.calibration.proofs.with_scale.Goals.{After-judge, Start}

-- what the call answers, with raw as it was handed in
judged : (c : After-judge) → c.judge.result ≡ first_misfit (numbers c.args.raw c.args.e c.args.f)
judged c = c.judge.ensures ∙ ap (λ (z : ℤ). first_misfit (numbers z c.args.e c.args.f)) (to_z-of_z c.ranges.raw)

pub returns : goal.returns
unfolding reading read_where
returns c =
    let s = (goal.at.returns c).Start in
    rw (sym (judged (goal.at.returns c).After-judge) ∙ c.in_ok-judge.was) (ap (λ (z : ℤ). value (operands z s.args.e s.args.f)) (to_z-of_z s.ranges.raw))

pub returns-in_err-judge : goal.returns-in_err-judge
unfolding reading read_where
returns-in_err-judge c =
    let gone : c.from_residual.result ≡ Err c.in_err-judge.field-0.0 = search rules in
    rw (gone, sym (judged (goal.at.returns-in_err-judge c).After-judge) ∙ c.in_err-judge.was)
