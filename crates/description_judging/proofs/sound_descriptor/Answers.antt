-- `description_judging::sound_descriptor` meets its contract: what it asks in turn is both tests of each attribute, and so the first of all and the second of all.
use mathlib.Core.Path.{◌≡◌, refl, sym, ap, ◌∙◌}
use mathlib.Core.Bool.{false, ◌||◌}
use Prim.Native.Nat.{ℕ, ◌-◌, ◌^◌}
use native.Mathlib.Omega.{arith}
use borrow.Author.Rules.{rules}
use mir.Syntax.{w32}
use mir.Val.{to_z, of_z}
use mir.ValLaws.{to_z-of_z}
use Rattle.channels.specs.Channel.{width_of, signed_of}
use Rattle.channels.specs.Stored.{offset, value_of}
use Rattle.descriptions.specs.Description.{flagless}
use Rattle.description_judging.proofs.Judging.{to_scaling, to_minimum, to_maximum, to_mean, to_deviation, all_asked, asked, not-asked, largest-deviation}
use Rattle.description_judging.proofs.sound_descriptor.Goals as goal
use Rattle.description_judging.proofs.sound_descriptor.Goals.{After-largest-largest, After-sound_attribute, After-value_of-most, Else-d, Joined-sound_attribute, Joined-sound_attribute-2, Joined-sound_attribute-3, Joined-sound_attribute-4, Start, Then-sound_attribute-5, then-sound_attribute, else-sound_attribute, then-sound_attribute-2, else-sound_attribute-2, then-sound_attribute-3, else-sound_attribute-3, then-sound_attribute-4, else-sound_attribute-4}

-- the bounds of a minimum, a maximum and a mean
module _ (channel : ℕ) (c : After-value_of-most) (h : c.args.signed ≡ signed_of channel) where
  abbrev width : ℕ
  width = width_of c.args.format

  least : to_z w32 (of_z w32 c.value_of-least.result) ≡ value_of width (signed_of channel) 0
  least = to_z-of_z w32 c.value_of-least.result (search rules) ∙ c.value_of-least.ensures ∙ rw h

  most : to_z w32 (of_z w32 c.value_of-most.result) ≡ value_of width (signed_of channel) (256 ^ width - 1)
  most = to_z-of_z w32 c.value_of-most.result (search rules) ∙ c.value_of-most.ensures ∙ rw (h, c.largest-largest.ensures)

-- what was asked up to each attribute
module _ (c : After-sound_attribute) where
  abbrev start : Start
  start = (goal.at.After-sound_attribute c).Start

  scaling-asked : c.sound_attribute.result ≡ to_scaling start.args.d
  unfolding value_of offset
  scaling-asked = c.sound_attribute.ensures 2 false refl refl

module _ (channel : ℕ) where
  abbrev Signed : After-sound_attribute → Type 0
  Signed c = (start c).args.signed ≡ signed_of channel

  abbrev Minimum : Joined-sound_attribute → Type 0
  Minimum c = c.if-sound_attribute.value ≡ to_minimum (width_of (start (goal.at.Joined-sound_attribute c).After-sound_attribute).args.format) channel (start (goal.at.Joined-sound_attribute c).After-sound_attribute).args.d

  minimum-asked : (c : Joined-sound_attribute) → Signed (goal.at.Joined-sound_attribute c).After-sound_attribute → Minimum c
  minimum-asked c h =
      let e = scaling-asked (goal.at.Joined-sound_attribute c).After-sound_attribute in
      let v = (goal.at.Joined-sound_attribute c).After-value_of-most in
      elim c.if-sound_attribute.branch as (λ _. Minimum c) [
        | then-sound_attribute w ↦ w.value-is ∙ asked e w.if-sound_attribute.true (w.sound_attribute-then-sound_attribute.ensures _ _ (least channel v h) (most channel v h))
        | else-sound_attribute w ↦ w.value-is ∙ not-asked e _ w.if-sound_attribute.false
      ]

  abbrev Maximum : Joined-sound_attribute-2 → Type 0
  Maximum c = c.if-sound_attribute-2.value ≡ to_maximum (width_of (start (goal.at.Joined-sound_attribute-2 c).After-sound_attribute).args.format) channel (start (goal.at.Joined-sound_attribute-2 c).After-sound_attribute).args.d

  maximum-asked : (c : Joined-sound_attribute-2) → Signed (goal.at.Joined-sound_attribute-2 c).After-sound_attribute → Maximum c
  maximum-asked c h =
      let e = minimum-asked (goal.at.Joined-sound_attribute-2 c).Joined-sound_attribute h in
      let v = (goal.at.Joined-sound_attribute-2 c).After-value_of-most in
      elim c.if-sound_attribute-2.branch as (λ _. Maximum c) [
        | then-sound_attribute-2 w ↦ w.value-is ∙ asked e w.if-sound_attribute-2.true (w.sound_attribute-then-sound_attribute-2.ensures _ _ (least channel v h) (most channel v h))
        | else-sound_attribute-2 w ↦ w.value-is ∙ not-asked e _ w.if-sound_attribute-2.false
      ]

  abbrev Mean : Joined-sound_attribute-3 → Type 0
  Mean c = c.if-sound_attribute-3.value ≡ to_mean (width_of (start (goal.at.Joined-sound_attribute-3 c).After-sound_attribute).args.format) channel (start (goal.at.Joined-sound_attribute-3 c).After-sound_attribute).args.d

  mean-asked : (c : Joined-sound_attribute-3) → Signed (goal.at.Joined-sound_attribute-3 c).After-sound_attribute → Mean c
  mean-asked c h =
      let e = maximum-asked (goal.at.Joined-sound_attribute-3 c).Joined-sound_attribute-2 h in
      let v = (goal.at.Joined-sound_attribute-3 c).After-value_of-most in
      elim c.if-sound_attribute-3.branch as (λ _. Mean c) [
        | then-sound_attribute-3 w ↦ w.value-is ∙ asked e w.if-sound_attribute-3.true (w.sound_attribute-then-sound_attribute-3.ensures _ _ (least channel v h) (most channel v h))
        | else-sound_attribute-3 w ↦ w.value-is ∙ not-asked e _ w.if-sound_attribute-3.false
      ]

  abbrev Deviation : Joined-sound_attribute-4 → Type 0
  Deviation c = c.if-sound_attribute-4.value ≡ to_deviation (width_of (start (goal.at.Joined-sound_attribute-4 c).After-sound_attribute).args.format) channel (start (goal.at.Joined-sound_attribute-4 c).After-sound_attribute).args.d

  deviation-asked : (c : Joined-sound_attribute-4) → Signed (goal.at.Joined-sound_attribute-4 c).After-sound_attribute → Deviation c
  unfolding value_of offset
  deviation-asked c h =
      let e = mean-asked (goal.at.Joined-sound_attribute-4 c).Joined-sound_attribute-3 h in
      let l = (goal.at.Joined-sound_attribute-4 c).After-largest-largest in
      elim c.if-sound_attribute-4.branch as (λ _. Deviation c) [
        | then-sound_attribute-4 w ↦ w.value-is ∙ asked e w.if-sound_attribute-4.true (w.sound_attribute-then-sound_attribute-4.ensures _ false refl (largest-deviation _ _ (omega arith) l.largest-largest.ensures))
        | else-sound_attribute-4 w ↦ w.value-is ∙ not-asked e _ w.if-sound_attribute-4.false
      ]

pub returns-then-d : goal.returns-then-d
returns-then-d c channel h =
    let t = (goal.at.returns-then-d c).Then-sound_attribute-5 in
    let d = (start (goal.at.Then-sound_attribute-5 t).After-sound_attribute).args.d in
    asked (deviation-asked channel (goal.at.Then-sound_attribute-5 t).Joined-sound_attribute-4 h) t.if-sound_attribute-5.true (c.if-d.true ∙ sym (ap (λ x. x || flagless d) c.if-d.true)) ∙ all_asked _ channel d

pub returns-else-d : goal.returns-else-d
returns-else-d c channel h =
    let f = (goal.at.returns-else-d c).Else-d in
    let t = (goal.at.Else-d f).Then-sound_attribute-5 in
    let d = (start (goal.at.Then-sound_attribute-5 t).After-sound_attribute).args.d in
    asked (deviation-asked channel (goal.at.Then-sound_attribute-5 t).Joined-sound_attribute-4 h) t.if-sound_attribute-5.true (c.has_no_flag.ensures ∙ sym (ap (λ x. x || flagless d) f.if-d.false)) ∙ all_asked _ channel d

pub returns-else-sound_attribute-5 : goal.returns-else-sound_attribute-5
returns-else-sound_attribute-5 c channel h = not-asked (deviation-asked channel (goal.at.returns-else-sound_attribute-5 c).Joined-sound_attribute-4 h) _ c.if-sound_attribute-5.false ∙ all_asked _ channel _
