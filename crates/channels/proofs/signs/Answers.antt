-- `channels::signs` meets its contract: the prover makes the number of the sixteen signs, and it is the code's.
use mathlib.Core.Path.{refl}
use Rattle.formats.specs.Binary.{binary}
use Rattle.channels.proofs.signs.Goals as goal

pub returns : goal.returns
unfolding binary
returns c = refl
