-- `description_writing::descriptor_byte` meets its contract: the sum of the weights is the definition, and they are too few to overflow.
use native.Mathlib.Omega.{arith}
use Rattle.formats.specs.Binary.{binary}
use Rattle.descriptions.specs.Description.{descriptor_byte}
use Rattle.description_writing.proofs.descriptor_byte.Goals as goal
use Rattle.description_writing.proofs.descriptor_byte.Goals.{After-weight-3}

pub returns : goal.returns
unfolding descriptor_byte binary
returns c =
    let f = (goal.at.returns c).After-weight-3 in
    rw (
      f.weight.ensures.0,
      f.weight-2.ensures.0,
      f.weight-3.ensures.0,
      c.weight-4.ensures.0,
      c.weight-5.ensures.0,
      c.weight-6.ensures.0,
      c.weight-7.ensures.0,
    ) (omega arith)
