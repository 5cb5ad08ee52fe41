-- `descriptions::nothing` meets its contract: sixteen channels, each of them absent.
use mathlib.Core.Path.{refl}
use Rattle.descriptions.specs.Read.{nothing}
use Rattle.descriptions.proofs.nothing.Goals as goal

pub returns : goal.returns
unfolding nothing
returns c = refl
