-- `sayings::put_channels` puts nothing where no channel is included: each turn puts nothing for its channel then.
use mathlib.Core.Path.{◌≡◌}
use Rattle.sayings.specs.Silent.{Silent}
use Rattle.sayings.proofs.put_channels.Given as goal

abbrev pub invariant-loop-channel : goal.invariant-loop-channel
invariant-loop-channel l = Silent l.description → l.text ≡ l.initial.text
