-- `doubles::place_double` meets its contract: to read a place is to divide its operands, which are in their ranges. Assumes nothing.
use mathlib.Core.Path.{◌≡◌, ap, ◌∙◌, subst}
use Rattle.std.specs.Prelude.{Some, None}
use borrow.Author.Rules.{rules}
use mir.Syntax.{w64}
use mir.Val.{SFits}
use mir.Facts.{to_z-of_z}
use Rattle.calibration.specs.declared.Scaled.{Scaled}
use Rattle.calibration.specs.Reading as calibration
use Rattle.calibration.specs.Laws.{divide}
use Rattle.calibration.proofs.Laws.{divided-placed, operands-in-range, value-placed}
use Rattle.doubles.specs.Quotient.{quotient, Quotient}
use Rattle.doubles.proofs.place_double.Goals as goal
use Rattle.doubles.proofs.place_double.Goals.{After-calibrate}

-- what the call answers, divided
divided : (c : After-calibrate) → divide quotient (calibration.told c.calibrate.result) ≡ calibration.place_reading quotient c.args.place c.args.scaling
divided c = ap (divide quotient) c.calibrate.ensures ∙ divided-placed quotient c.args.place c.args.scaling

pub returns-in_err-calibrated : goal.returns-in_err-calibrated
unfolding divide
returns-in_err-calibrated c =
    let gone : c.from_residual.result ≡ None = search rules in
    rw gone (rw c.in_err-calibrated.was at (divided (goal.at.returns-in_err-calibrated c).After-calibrate), tt)

pub returns-in-Err : goal.returns-in-Err
unfolding divide
returns-in-Err c = (rw (c.in_ok-calibrated.was ∙ ap Some c.in-Err.is) at (divided (goal.at.returns-in-Err c).After-calibrate), tt)

-- the operands of a place that has any: raw fits its word, and they are in their ranges
pub divide-requires : goal.divide-requires
divide-requires c =
    let fits : SFits w64 c.in-Ok.scaled.raw = search rules in
    let m = (goal.at.divide-requires c).After-calibrate in
    rw (to_z-of_z fits) (operands-in-range c.args.place c.args.scaling c.in-Ok.scaled (rw (c.in_ok-calibrated.was ∙ ap Some c.in-Ok.is) at m.calibrate.ensures))

pub returns-in-Ok : goal.returns-in-Ok
unfolding divide quotient
returns-in-Ok c =
    let b = (goal.at.returns-in-Ok c).After-calibrate in
    let t = c.in-Ok.scaled in
    let is = c.in_ok-calibrated.was ∙ ap Some c.in-Ok.is in
    let fits : SFits w64 t.raw = search rules in
    let q = rw (to_z-of_z fits) at c.divide.ensures in
    let d = value-placed calibration.operands c.args.place c.args.scaling t (rw is at b.calibrate.ensures) in (
      ap calibration.value q.divided ∙ (rw is at (divided b)),
      subst (λ (t : Scaled). Quotient t.raw t.exponent t.fraction c.divide.result) d.is q,
    )
