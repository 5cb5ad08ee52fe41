-- `words::begins` looks at the first byte, which an empty word has not.
use mathlib.Core.Path.{◌≡◌, refl}
use mathlib.Core.Bool.{false}
use mathlib.Core.List.{List, [], ◌∷◌}
use Prim.Native.Nat.{ℕ}
use lib.ListN.{length, get_or}
use lib.Dec.{eqb}
use native.Mathlib.Omega.{arith}
use Rattle.words.specs.Said.{begins_with}
use Rattle.words.proofs.begins.Goals as goal

none : (word : List ℕ) (mark : ℕ) → length word ≡ 0 → false ≡ begins_with word mark
unfolding begins_with
none [] mark h = refl
none (byte ∷ bytes) mark h = absurd (omega arith)

some : (word : List ℕ) (mark : ℕ) → (length word ≡ 0 → ⊥) → eqb (get_or word 0 0) mark ≡ begins_with word mark
unfolding begins_with
some [] mark h = absurd (h refl)
some (byte ∷ bytes) mark h = refl

pub returns-in-empty : goal.returns-in-empty
returns-in-empty c = none c.args.word.now c.args.mark (omega arith)

pub returns-in-len1-up : goal.returns-in-len1-up
returns-in-len1-up c = some c.args.word.now c.args.mark (λ e. omega arith)
