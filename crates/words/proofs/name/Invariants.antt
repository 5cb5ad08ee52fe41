-- `words::name` finds the name of its number: the names that are left count from the place that the loop has come to.
use Rattle.std.proofs.Common.{ℕ, ◌-◌}
use Rattle.words.specs.Names.{At}
use Rattle.words.proofs.name.Given as goal

abbrev pub invariant-loop-count : goal.invariant-loop-count
invariant-loop-count l = (from to : ℕ) → At l.names l.mark l.place (l.number - l.count) from to → At l.names l.mark 0 l.number from to
