-- `readings::denominator_of` meets its contract: a shift of a number below 2^12 by at most 31 loses no bit. Assumes nothing.
use native.Mathlib.Omega.{arith}
use lib.Pow.{shl_exact}
use Rattle.readings.proofs.denominator_of.Goals as goal

pub returns : goal.returns
returns c = shl_exact 12 c.args.e 64 (omega arith) (omega arith)
