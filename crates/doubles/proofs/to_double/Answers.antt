-- `doubles::to_double` meets its contract: by what the numbers' judgement is; those that pass are in their ranges. Assumes nothing.
use Rattle.std.specs.Prelude.{Err}
use borrow.Author.Rules.{rules}
use mathlib.Core.Path.{◌≡◌, sym, ap, ◌∙◌}
use lib.IntN.{ℤ}
use mir.Facts.{to_z-of_z}
use Rattle.refusals.specs.Ranges.{first_misfit}
use Rattle.calibration.specs.Reading as calibration
use Rattle.calibration.specs.Reading.{numbers, value}
use Rattle.calibration.specs.Laws.{passed-in-range}
use Rattle.doubles.specs.Quotient.{quotient, Quotient}
use Rattle.doubles.proofs.to_double.Goals as goal
use Rattle.doubles.proofs.to_double.Goals.{After-divide, After-judge, In_ok-judge, Start}

-- what the call answers, with raw as it was handed in
judged : (c : After-judge) → c.judge.result ≡ first_misfit (numbers c.args.raw c.args.e c.args.f)
judged c = c.judge.ensures ∙ ap (λ (z : ℤ). first_misfit (numbers z c.args.e c.args.f)) (to_z-of_z c.ranges.raw)

pub divide-requires : goal.divide-requires
divide-requires c =
    let s = (goal.at.divide-requires c).Start in
    rw (to_z-of_z s.ranges.raw) (passed-in-range s.args.raw s.args.e s.args.f (sym (judged (goal.at.divide-requires c).After-judge) ∙ c.in_ok-judge.was))

-- the quotient, of raw as it was handed in
exactly : (c : After-divide) → Quotient c.args.raw c.args.e c.args.f c.divide.result
exactly c = let s = (goal.at.After-divide c).Start in rw (to_z-of_z s.ranges.raw) at c.divide.ensures

pub returns : goal.returns
unfolding calibration.reading calibration.read_where quotient
returns c =
    let b = (goal.at.returns c).In_ok-judge in
    (rw (sym (judged (goal.at.In_ok-judge b).After-judge) ∙ b.in_ok-judge.was) (ap value (exactly c).divided), exactly c)

pub returns-in_err-judge : goal.returns-in_err-judge
unfolding calibration.reading calibration.read_where
returns-in_err-judge c =
    let gone : c.from_residual.result ≡ Err c.in_err-judge.field-0.0 = search rules in
    rw gone (rw (sym (judged (goal.at.returns-in_err-judge c).After-judge) ∙ c.in_err-judge.was), tt)
