-- Words that follow where only spaces do: there is none, so that a loop over words has no turn.
use mathlib.Core.List.{List}
use mathlib.Core.Logic.{⊎_elim}
use Prim.Native.Nat.{ℕ, ◌≤◌}
use lib.ListN.{length}
use native.Mathlib.Omega.{arith}
use Rattle.words.specs.Places.{Word, Blank}
use Rattle.words.proofs.Words.{lt-or-ge}

-- where only spaces follow, the next word is empty
pub empty : (line : List ℕ) (at from to : ℕ) → Word line 32 at from to → Blank line at → to ≤ from
empty line at from to w h =
    ⊎_elim
    (λ p. absurd (w.begins.found p (h from w.begins.onward p)))
    (λ p. ⊎_elim (λ q. omega (arith, w.ends.inside q)) (λ q. q) (lt-or-ge from to))
    (lt-or-ge from (length line))
