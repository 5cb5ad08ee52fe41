-- `words::without_not` drops one byte where the word says not, and none elsewhere.
use mathlib.Core.Path.{◌≡◌, refl, sym, ◌∙◌}
use mathlib.Core.Bool.{Bool, true, false}
use mathlib.Core.List.{List}
use Prim.Native.Nat.{ℕ, ◌-◌}
use lib.ListN.{length, length-drop, take, drop}
use lib.Seq.{take_all}
use native.Mathlib.Omega.{arith}
use Rattle.words.specs.Said.{says_not, without_not}
use Rattle.words.proofs.without_not.Goals as goal

shorter : (word rest : List ℕ) (says : Bool) → says ≡ true → says ≡ says_not word → rest ≡ take (length word - 1) (drop 1 word) → rest ≡ without_not word
shorter word rest says p q e = rw (sym q ∙ p) (e ∙ take_all (length word - 1) (drop 1 word) (simp length-drop (omega arith)))

same : (word : List ℕ) (says : Bool) → says ≡ false → says ≡ says_not word → word ≡ without_not word
same word says p q = rw (sym q ∙ p) refl

pub returns-then-says_not : goal.returns-then-says_not
returns-then-says_not c = shorter c.args.word.now _ _ c.if-says_not.true c.says_not.ensures c.part.ensures

pub returns : goal.returns
returns c = same c.args.word.now _ c.if-says_not.false c.says_not.ensures
