-- `calibration::calibrate` meets its contract: by the place's variant; a number of 32 bits is the same number in 64. Assumes nothing.
use native.Mathlib.Omega.{arith}
use borrow.Author.Rules.{rules}
use lib.IntN.{ℤ, pos, negsuc}
use mir.Syntax.{w32, w64}
use mir.Val.{SFits}
use mir.ValLaws.{to_z-of_z}
use Rattle.calibration.specs.Reading.{place_reading}
use Rattle.calibration.proofs.calibrate.Goals as goal
use Rattle.calibration.proofs.calibrate.Goals.{In-Number}

wider : (z : ℤ) → SFits w32 z → SFits w64 z
wider (pos n) h = let k = h.sfits in record { sfits = omega arith }
wider (negsuc n) h = let k = h.sfits in record { sfits = omega arith }

-- the number of a place
raw-fits : (c : In-Number) → SFits w32 c.in-Number.raw
raw-fits c = search rules

pub overflow_cast-raw : goal.overflow_cast-raw
overflow_cast-raw c = rw (to_z-of_z w32 _ (raw-fits c)) (wider _ (raw-fits c))

pub returns-in-Absent : goal.returns-in-Absent
unfolding place_reading
returns-in-Absent c = rw c.in-Absent.is

pub returns-in-Constant : goal.returns-in-Constant
unfolding place_reading
returns-in-Constant c = rw c.in-Constant.is c.with_scaling.ensures

pub returns-in-Number : goal.returns-in-Number
unfolding place_reading
returns-in-Number c =
    let raw = c.in-Number.raw in
    let f = raw-fits (goal.at.returns-in-Number c).In-Number in
    rw c.in-Number.is (rw (to_z-of_z w32 raw f, to_z-of_z w64 raw (wider raw f)) at c.with_scaling-in-Number.ensures)
