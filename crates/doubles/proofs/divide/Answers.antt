-- `doubles::divide` meets its contract: raw in its range is a double without loss, and what is divided is the quotient that is promised. Assumes nothing.
use native.Mathlib.Omega.{arith}
use mir.Facts.{to_z-of_z}
use Rattle.doubles.specs.Quotient.{quotient}
use Rattle.doubles.proofs.OperandLaws.{raw-held}
use Rattle.doubles.proofs.ReadingLaws.{quotient_is}
use Rattle.doubles.proofs.divide.Goals as goal
use Rattle.doubles.proofs.divide.Goals.{After-scale_of-scale, Start}

pub scale_of-scale-requires : goal.scale_of-scale-requires
scale_of-scale-requires c = (c.requires.exponent, c.requires.fraction)

pub int_to_float-result : goal.int_to_float-result
int_to_float-result c =
    let s = (goal.at.int_to_float-result c).Start in
    let l = s.requires.size in
    rw (to_z-of_z s.ranges.raw) (raw-held s.args.raw (omega arith))

pub returns : goal.returns
unfolding quotient
returns c =
    let b = (goal.at.returns c).After-scale_of-scale in
    let s = (goal.at.After-scale_of-scale b).Start in
    rw (to_z-of_z s.ranges.raw, b.scale_of-scale.ensures) (quotient_is s.args.raw s.args.e s.args.f s.requires)
