-- `doubles::scale_of` meets its contract: the bits are no NaN's. Assumes nothing.
use native.Mathlib.Omega.{arith}
use Rattle.doubles.proofs.OperandLaws.{bits-number}
use Rattle.doubles.proofs.scale_of.Goals as goal

pub float_from_bits-result : goal.float_from_bits-result
float_from_bits-result c = bits-number _ (omega arith)
