-- `words::which` finds the first name that a word is: the names behind the place that the loop has come to are counted from there, and no name before it is the word.
use Rattle.std.proofs.Common.{◌≡◌, ℕ, ◌≤◌, ◌<◌, ◌-◌, ◌+◌, length}
use Rattle.words.specs.Names.{At, between}
use Rattle.words.proofs.which.Given as goal

abbrev pub invariant-loop-at : goal.invariant-loop-at
invariant-loop-at l =
    record {
      inside : l.number ≤ l.at;
      ahead : (n from to : ℕ) → At l.names l.mark l.at n from to → At l.names l.mark 0 (l.number + n) from to;
      others : (n start end : ℕ) → n < l.number → At l.names l.mark 0 n start end → l.word ≡ between l.names start end → ⊥;
    }

abbrev pub decreases-loop-at : goal.decreases-loop-at
decreases-loop-at l = length l.names - l.at
