-- `numerals::whole_in` says the number of its digits, which fits with either sign: it is below 10^18.
use mathlib.Core.Path.{◌≡◌, sym, ap, ◌∙◌}
use mathlib.Core.Bool.{Bool, true, false}
use mathlib.Core.List.{List}
use Prim.Native.Nat.{ℕ, ◌<◌, ◌-◌, zero, suc}
use native.Mathlib.Omega.{arith}
use borrow.Author.Tests.{lt-ltb}
use lib.ListN.{length, length-drop, take, drop}
use lib.Seq.{take_all}
use lib.IntN.{pos, ◌-ℤ◌}
use mir.Syntax.{w64}
use mir.Val.{SFits, to_z, of_z}
use mir.ValLaws.{to_z_pos, to_z-of_z}
use Rattle.words.specs.Said.{begins_with}
use Rattle.numerals.specs.Decimal.{continued, whole}
use Rattle.numerals.proofs.whole_in.Goals as goal

-- the other sign: zero has none, and any other number goes below it
turned : (n : ℕ) → n < 1000000000000000000 → SFits w64 (pos 0 -ℤ pos n)
turned zero h = record { sfits = omega arith }
turned (suc n) h = rw (lt-ltb 0 (suc n) (omega arith)) (record { sfits = omega (arith, h) })

negative : (word rest : List ℕ) (n : ℕ) (says : Bool) → says ≡ true → says ≡ begins_with word 45 → rest ≡ take (length word - 1) (drop 1 word) → n < 1000000000000000000 → n ≡ continued 0 rest → to_z w64 (of_z w64 (pos 0 -ℤ to_z w64 n)) ≡ whole word
unfolding whole
negative word rest n says p q e h d =
    let t : rest ≡ drop 1 word = e ∙ take_all (length word - 1) (drop 1 word) (simp length-drop (omega arith)) in
    rw (to_z_pos w64 n (omega arith), to_z-of_z w64 (pos 0 -ℤ pos n) (turned n h), sym q ∙ p) (ap (λ (m : ℕ). pos 0 -ℤ pos m) (d ∙ ap (continued 0) t))

plain : (word : List ℕ) (n : ℕ) (says : Bool) → says ≡ false → says ≡ begins_with word 45 → n < 1000000000000000000 → n ≡ continued 0 word → to_z w64 n ≡ whole word
unfolding whole
plain word n says p q h d = rw (to_z_pos w64 n (omega arith), sym q ∙ p) (ap pos d)

pub returns-then-begins : goal.returns-then-begins
returns-then-begins c = negative c.args.word.now _ c.in_ok-magnitude.magnitude _ c.if-begins.true c.begins.ensures c.part.ensures c.in_ok-magnitude.ensures.0 c.in_ok-magnitude.ensures.1

pub returns : goal.returns
returns c = plain c.args.word.now c.in_ok-magnitude-2.magnitude _ c.if-begins.false c.begins.ensures c.in_ok-magnitude-2.ensures.0 c.in_ok-magnitude-2.ensures.1
