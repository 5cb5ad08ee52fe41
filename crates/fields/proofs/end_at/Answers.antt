-- `fields::end_at` finds no word where only spaces follow: the next word would begin with another byte.
use mathlib.Core.Path.{◌≡◌}
use mathlib.Core.List.{List}
use mathlib.Core.Logic.{⊎_elim}
use Prim.Native.Nat.{ℕ, ◌≤◌}
use native.Mathlib.Omega.{arith}
use lib.ListN.{length}
use Rattle.words.specs.Places.{Word, Blank}
use Rattle.words.proofs.Words.{lt-or-ge}
use Rattle.fields.proofs.end_at.Goals as goal

-- an empty word stands at the end
ended : (line : List ℕ) (at from to : ℕ) → Word line 32 at from to → to ≤ from → length line ≤ from
ended line at from to w h =
    ⊎_elim
    (λ p. let e : to ≡ from = omega (arith, w.ends.onward) in absurd (w.begins.found p (rw e at (w.ends.found (omega arith)))))
    (λ p. p)
    (lt-or-ge from (length line))

blank : (line : List ℕ) (at from to : ℕ) → Word line 32 at from to → to ≤ from → Blank line at
blank line at from to w h k p q = w.begins.passed k (omega (arith, ended line at from to w h)) p

pub returns : goal.returns
returns c = blank _ _ _ _ c.next-after.ensures c.if-after.false
