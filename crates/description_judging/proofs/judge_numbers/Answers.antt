-- `description_judging::judge_numbers` meets its contract: of a tidy attribute the check says whether it fits, and the first that does not is named.
use Rattle.std.specs.Prelude.{Result, ⊤}
use mathlib.Core.Path.{◌≡◌, refl, sym, ap, ap₂, ◌∙◌}
use mathlib.Core.Bool.{Bool, false}
use Prim.Native.Nat.{ℕ, ◌-◌, ◌^◌}
use native.Mathlib.Omega.{arith}
use borrow.Author.Rules.{rules}
use lib.ListN.{drop}
use mir.Syntax.{w32}
use mir.Val.{to_z, of_z}
use mir.ValLaws.{to_z-of_z}
use Rattle.refusals.specs.Stages.{require, or_else}
use Rattle.refusals.specs.Ranges.{first_misfit}
use Rattle.channels.specs.Channel.{width_of, signed_of}
use Rattle.channels.specs.Stored.{offset, value_of}
use Rattle.channels.specs.declared.Descriptor.{Descriptor}
use Rattle.descriptions.specs.Description.{fits_attribute}
use Rattle.description_judging.specs.Judging.{numbers_of}
use Rattle.description_judging.proofs.Judging.{second, TidyAttributes, tidy-attributes, largest-deviation}
use Rattle.description_judging.proofs.judge_numbers.Goals as goal
use Rattle.description_judging.proofs.judge_numbers.Goals.{After-sound_attribute, After-sound_attribute-2, After-sound_attribute-3, After-sound_attribute-4, After-sound_attribute-5, After-value_of-most, Else-not-sound_attribute, Else-not-sound_attribute-2, Else-not-sound_attribute-3, Else-not-sound_attribute-4, Else-not-sound_attribute-5, Start}
use Rattle.refusals.specs.declared.Refusal.{Refusal}

-- ---- Where the bounds are known

module _ (c : After-value_of-most) where
  abbrev start : Start
  start = (goal.at.After-value_of-most c).Start

  abbrev width : ℕ
  width = width_of start.args.format

  abbrev descriptor : Descriptor
  descriptor = start.args.d

  abbrev sign : Bool
  sign = signed_of start.args.channel

  tidy : TidyAttributes descriptor
  tidy = tidy-attributes descriptor start.requires

  signed : c.is_signed-signed.result ≡ sign
  signed = c.is_signed-signed.ensures

  -- the bounds of a minimum, a maximum and a mean
  least : to_z w32 (of_z w32 c.value_of-least.result) ≡ value_of width sign 0
  least = to_z-of_z w32 c.value_of-least.result (search rules) ∙ c.value_of-least.ensures ∙ ap (λ t. value_of width t 0) signed

  most : to_z w32 (of_z w32 c.value_of-most.result) ≡ value_of width sign (256 ^ width - 1)
  most = to_z-of_z w32 c.value_of-most.result (search rules) ∙ c.value_of-most.ensures ∙ ap₂ (value_of width) signed c.largest-largest.ensures

  -- what is said of the numbers behind the first k
  abbrev left : ℕ → Result ⊤ Refusal
  left k = first_misfit (drop k (numbers_of width start.args.channel descriptor))

-- ---- What the check says of each attribute, and what is left behind it

abbrev at-scaling : After-sound_attribute → After-value_of-most
at-scaling c = (goal.at.After-sound_attribute c).After-value_of-most

scaling : (c : After-sound_attribute) → c.sound_attribute.result ≡ fits_attribute 2 false (descriptor (at-scaling c)).scaling
unfolding value_of offset
scaling c = second (c.sound_attribute.ensures 2 false refl refl) (tidy (at-scaling c)).scaling

past-scaling : (c : Else-not-sound_attribute) → left (at-scaling (goal.at.Else-not-sound_attribute c).After-sound_attribute) 0 ≡ left (at-scaling (goal.at.Else-not-sound_attribute c).After-sound_attribute) 1
unfolding numbers_of first_misfit or_else require
past-scaling c = rw (sym (scaling (goal.at.Else-not-sound_attribute c).After-sound_attribute) ∙ c.if-not-sound_attribute.false)

abbrev at-minimum : After-sound_attribute-2 → After-value_of-most
at-minimum c = at-scaling (goal.at.After-sound_attribute-2 c).After-sound_attribute

minimum : (c : After-sound_attribute-2) → c.sound_attribute-2.result ≡ fits_attribute (width (at-minimum c)) (sign (at-minimum c)) (descriptor (at-minimum c)).minimum
minimum c = second (c.sound_attribute-2.ensures _ _ (least (at-minimum c)) (most (at-minimum c))) (tidy (at-minimum c)).minimum

past-minimum : (c : Else-not-sound_attribute-2) → left (at-minimum (goal.at.Else-not-sound_attribute-2 c).After-sound_attribute-2) 0 ≡ left (at-minimum (goal.at.Else-not-sound_attribute-2 c).After-sound_attribute-2) 2
unfolding numbers_of first_misfit or_else require
past-minimum c = past-scaling (goal.at.Else-not-sound_attribute-2 c).Else-not-sound_attribute ∙ rw (sym (minimum (goal.at.Else-not-sound_attribute-2 c).After-sound_attribute-2) ∙ c.if-not-sound_attribute-2.false)

abbrev at-maximum : After-sound_attribute-3 → After-value_of-most
at-maximum c = at-minimum (goal.at.After-sound_attribute-3 c).After-sound_attribute-2

maximum : (c : After-sound_attribute-3) → c.sound_attribute-3.result ≡ fits_attribute (width (at-maximum c)) (sign (at-maximum c)) (descriptor (at-maximum c)).maximum
maximum c = second (c.sound_attribute-3.ensures _ _ (least (at-maximum c)) (most (at-maximum c))) (tidy (at-maximum c)).maximum

past-maximum : (c : Else-not-sound_attribute-3) → left (at-maximum (goal.at.Else-not-sound_attribute-3 c).After-sound_attribute-3) 0 ≡ left (at-maximum (goal.at.Else-not-sound_attribute-3 c).After-sound_attribute-3) 3
unfolding numbers_of first_misfit or_else require
past-maximum c = past-minimum (goal.at.Else-not-sound_attribute-3 c).Else-not-sound_attribute-2 ∙ rw (sym (maximum (goal.at.Else-not-sound_attribute-3 c).After-sound_attribute-3) ∙ c.if-not-sound_attribute-3.false)

abbrev at-mean : After-sound_attribute-4 → After-value_of-most
at-mean c = at-maximum (goal.at.After-sound_attribute-4 c).After-sound_attribute-3

mean : (c : After-sound_attribute-4) → c.sound_attribute-4.result ≡ fits_attribute (width (at-mean c)) (sign (at-mean c)) (descriptor (at-mean c)).mean
mean c = second (c.sound_attribute-4.ensures _ _ (least (at-mean c)) (most (at-mean c))) (tidy (at-mean c)).mean

past-mean : (c : Else-not-sound_attribute-4) → left (at-mean (goal.at.Else-not-sound_attribute-4 c).After-sound_attribute-4) 0 ≡ left (at-mean (goal.at.Else-not-sound_attribute-4 c).After-sound_attribute-4) 4
unfolding numbers_of first_misfit or_else require
past-mean c = past-maximum (goal.at.Else-not-sound_attribute-4 c).Else-not-sound_attribute-3 ∙ rw (sym (mean (goal.at.Else-not-sound_attribute-4 c).After-sound_attribute-4) ∙ c.if-not-sound_attribute-4.false)

abbrev at-deviation : After-sound_attribute-5 → After-value_of-most
at-deviation c = at-mean (goal.at.After-sound_attribute-5 c).After-sound_attribute-4

deviation : (c : After-sound_attribute-5) → c.sound_attribute-5.result ≡ fits_attribute (width (at-deviation c)) false (descriptor (at-deviation c)).deviation
unfolding value_of offset
deviation c = second (c.sound_attribute-5.ensures _ false refl (largest-deviation _ _ (omega arith) (at-deviation c).largest-largest.ensures)) (tidy (at-deviation c)).deviation

past-deviation : (c : Else-not-sound_attribute-5) → left (at-deviation (goal.at.Else-not-sound_attribute-5 c).After-sound_attribute-5) 0 ≡ left (at-deviation (goal.at.Else-not-sound_attribute-5 c).After-sound_attribute-5) 5
unfolding numbers_of first_misfit or_else require
past-deviation c = past-mean (goal.at.Else-not-sound_attribute-5 c).Else-not-sound_attribute-4 ∙ rw (sym (deviation (goal.at.Else-not-sound_attribute-5 c).After-sound_attribute-5) ∙ c.if-not-sound_attribute-5.false)

-- ---- The answers

pub returns-then-not-sound_attribute : goal.returns-then-not-sound_attribute
unfolding numbers_of first_misfit or_else require
returns-then-not-sound_attribute c = c.outside.ensures ∙ sym (rw (sym (scaling (goal.at.returns-then-not-sound_attribute c).After-sound_attribute) ∙ c.if-not-sound_attribute.true))

pub returns-then-not-sound_attribute-2 : goal.returns-then-not-sound_attribute-2
unfolding numbers_of first_misfit or_else require
returns-then-not-sound_attribute-2 c = c.outside-then-not-sound_attribute-2.ensures ∙ sym (past-scaling (goal.at.returns-then-not-sound_attribute-2 c).Else-not-sound_attribute ∙ rw (sym (minimum (goal.at.returns-then-not-sound_attribute-2 c).After-sound_attribute-2) ∙ c.if-not-sound_attribute-2.true))

pub returns-then-not-sound_attribute-3 : goal.returns-then-not-sound_attribute-3
unfolding numbers_of first_misfit or_else require
returns-then-not-sound_attribute-3 c = c.outside-then-not-sound_attribute-3.ensures ∙ sym (past-minimum (goal.at.returns-then-not-sound_attribute-3 c).Else-not-sound_attribute-2 ∙ rw (sym (maximum (goal.at.returns-then-not-sound_attribute-3 c).After-sound_attribute-3) ∙ c.if-not-sound_attribute-3.true))

pub returns-then-not-sound_attribute-4 : goal.returns-then-not-sound_attribute-4
unfolding numbers_of first_misfit or_else require
returns-then-not-sound_attribute-4 c = c.outside-then-not-sound_attribute-4.ensures ∙ sym (past-maximum (goal.at.returns-then-not-sound_attribute-4 c).Else-not-sound_attribute-3 ∙ rw (sym (mean (goal.at.returns-then-not-sound_attribute-4 c).After-sound_attribute-4) ∙ c.if-not-sound_attribute-4.true))

pub returns-then-not-sound_attribute-5 : goal.returns-then-not-sound_attribute-5
unfolding numbers_of first_misfit or_else require
returns-then-not-sound_attribute-5 c = c.outside-then-not-sound_attribute-5.ensures ∙ sym (past-mean (goal.at.returns-then-not-sound_attribute-5 c).Else-not-sound_attribute-4 ∙ rw (sym (deviation (goal.at.returns-then-not-sound_attribute-5 c).After-sound_attribute-5) ∙ c.if-not-sound_attribute-5.true))

pub returns : goal.returns
unfolding numbers_of first_misfit
returns c = sym (past-deviation c)
