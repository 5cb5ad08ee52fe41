-- `description_judging::sound_attribute` meets its contract: its two comparisons together are the two tests, since the bounds are chosen by whether it is given.
use mathlib.Core.Path.{◌≡◌, ◌∙◌}
use mathlib.Core.Bool.{Bool, cond, ◌&&◌}
use Prim.Native.Nat.{ℕ, ◌-◌, ◌^◌}
use borrow.Author.Rules.{rules}
use lib.IntN.{pos}
use lib.Signed.{le_z}
use mir.Syntax.{w32}
use mir.Val.{to_z, of_z}
use mir.ValLaws.{to_z-of_z}
use Rattle.channels.specs.Stored.{value_of}
use Rattle.descriptions.specs.Description.{tidy_attribute, fits_attribute}
use Rattle.description_judging.proofs.Judging.{sound-attribute}
use Rattle.description_judging.proofs.sound_attribute.Goals as goal
use Rattle.description_judging.proofs.sound_attribute.Goals.{Joined-attribute, Joined-attribute-2, Start, Then-first-attribute, then-attribute, else-attribute, then-attribute-2, else-attribute-2}

-- the bounds as they were chosen
first : (c : Joined-attribute) → to_z w32 c.if-attribute.first-bits ≡ cond c.args.attribute.given c.args.least (pos 0)
first c =
    elim c.if-attribute.branch [ then-attribute w ↦ w.first-is ∙ to_z-of_z w32 c.args.least c.ranges.least ∙ rw w.if-attribute.true | else-attribute w ↦ w.first-is ∙ rw w.if-attribute.false ]

last : (c : Joined-attribute-2) → to_z w32 c.if-attribute-2.last-bits ≡ cond c.args.attribute.given c.args.most (pos 0)
last c =
    elim c.if-attribute-2.branch [ then-attribute-2 w ↦ w.last-is ∙ to_z-of_z w32 c.args.most c.ranges.most ∙ rw w.if-attribute-2.true | else-attribute-2 w ↦ w.last-is ∙ rw w.if-attribute-2.false ]

-- the two comparisons
module _ (c : Joined-attribute-2) (w : ℕ) (signed : Bool) where
  abbrev start : Start
  start = (goal.at.Joined-attribute-2 c).Start

  sound : start.args.least ≡ value_of w signed 0 → start.args.most ≡ value_of w signed (256 ^ w - 1)
      → (le_z (to_z w32 c.if-attribute.first-bits) (to_z w32 (of_z w32 start.args.attribute.number)) && le_z (to_z w32 (of_z w32 start.args.attribute.number)) (to_z w32 c.if-attribute-2.last-bits))
      ≡ (tidy_attribute start.args.attribute && fits_attribute w signed start.args.attribute)
  sound p q =
      rw (to_z-of_z w32 start.args.attribute.number (search rules))
      (sound-attribute start.args.attribute w signed (rw p at (first (goal.at.Joined-attribute-2 c).Joined-attribute)) (rw q at (last c)))

pub returns-then-first-attribute : goal.returns-then-first-attribute
returns-then-first-attribute c w signed p q = let t = (goal.at.returns-then-first-attribute c).Then-first-attribute in rw t.if-first-attribute.true at (sound (goal.at.Then-first-attribute t).Joined-attribute-2 w signed p q)

pub returns-else-first-attribute : goal.returns-else-first-attribute
returns-else-first-attribute c w signed p q = c.if-first-attribute.false ∙ (rw c.if-first-attribute.false at (sound (goal.at.returns-else-first-attribute c).Joined-attribute-2 w signed p q))
