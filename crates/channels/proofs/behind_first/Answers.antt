-- `channels::behind_first` meets its contract: the machine's shift by one is what is meant.
use mathlib.Core.Path.{refl}
use Rattle.channels.specs.Bits.{moved}
use Rattle.channels.proofs.behind_first.Goals as goal

pub returns : goal.returns
unfolding moved
returns c = refl
