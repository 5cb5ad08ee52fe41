-- `readings::place_thousandths` meets its contract: to read a place is to divide its operands, which are in their ranges. Assumes nothing.
use mathlib.Core.Path.{◌≡◌, ap, ◌∙◌}
use Rattle.std.specs.Prelude.{Some, None}
use borrow.Author.Rules.{rules, sfits_of}
use lib.IntN.{ℤ}
use mir.Syntax.{w64}
use mir.Val.{SFits}
use mir.Facts.{to_z-of_z}
use Rattle.calibration.specs.Reading as calibration
use Rattle.calibration.specs.Laws.{divide}
use Rattle.calibration.proofs.Laws.{divided-placed, operands-in-range}
use Rattle.readings.specs.Thousandths.{thousandths}
use Rattle.readings.proofs.place_thousandths.Goals as goal
use Rattle.readings.proofs.place_thousandths.Goals.{After-calibrate}

-- what the call answers, divided
divided : (c : After-calibrate) → divide thousandths (calibration.told c.calibrate.result) ≡ calibration.place_reading thousandths c.args.place c.args.scaling
divided c = ap (divide thousandths) c.calibrate.ensures ∙ divided-placed thousandths c.args.place c.args.scaling

pub returns-in_err-calibrated : goal.returns-in_err-calibrated
unfolding divide
returns-in_err-calibrated c =
    let gone : c.from_residual.result ≡ None = search rules in
    rw gone (rw c.in_err-calibrated.was at (divided (goal.at.returns-in_err-calibrated c).After-calibrate))

pub returns-in-Err : goal.returns-in-Err
unfolding divide
returns-in-Err c = rw (c.in_ok-calibrated.was ∙ ap Some c.in-Err.is) at (divided (goal.at.returns-in-Err c).After-calibrate)

-- the operands of a place that has any: raw fits its word, and they are in their ranges
pub divide-requires : goal.divide-requires
divide-requires c =
    let fits : SFits w64 c.in-Ok.scaled.raw = search rules in
    let m = (goal.at.divide-requires c).After-calibrate in
    rw (to_z-of_z fits) (operands-in-range c.args.place c.args.scaling c.in-Ok.scaled (rw (c.in_ok-calibrated.was ∙ ap Some c.in-Ok.is) at m.calibrate.ensures))

pub returns-in-Ok : goal.returns-in-Ok
unfolding divide
returns-in-Ok c =
    let t = c.in-Ok.scaled in
    let fits : SFits w64 t.raw = search rules in
    let r = to_z-of_z (sfits_of {w = w64} c.divide.type_inv) ∙ c.divide.ensures ∙ ap (λ (z : ℤ). thousandths z t.exponent t.fraction) (to_z-of_z fits) in
    ap calibration.value r ∙ (rw (c.in_ok-calibrated.was ∙ ap Some c.in-Ok.is) at (divided (goal.at.returns-in-Ok c).After-calibrate))
