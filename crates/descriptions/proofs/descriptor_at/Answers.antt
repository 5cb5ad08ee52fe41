-- `descriptions::descriptor_at` meets its contract: five attributes, each read from where the one before it ended, and all of them are there.
use mathlib.Core.Path.{◌≡◌, refl, ◌∙◌}
use mathlib.Core.Bool.{false}
use Prim.Native.Nat.{◌+◌, ◌≤◌}
use native.Mathlib.Omega.{arith}
use borrow.Author.Rules.{rules}
use lib.ListN.{length, get_or}
use mir.Syntax.{w32}
use mir.Val.{to_z, of_z}
use mir.ValLaws.{to_z-of_z}
use Rattle.channels.specs.Channel.{width_of}
use Rattle.channels.specs.Stored.{offset, value_of}
use Rattle.descriptions.specs.Read.{attributes_size, descriptor_size}
use Rattle.descriptions.proofs.Parts.{attributes-read}
use Rattle.descriptions.proofs.descriptor_at.Goals as goal
use Rattle.descriptions.proofs.descriptor_at.Goals.{After-attribute_at-found, After-attribute_at-found-2, After-attribute_at-found-3, After-attribute_at-found-4, After-attribute_at-found-5, After-value_of-least, Start}

pub bounds-s-at : goal.bounds-s-at
unfolding descriptor_size
bounds-s-at c = omega (arith, c.requires.0)

-- the least number, as the machine has it
module _ (c : After-value_of-least) where
  abbrev start : Start
  start = (goal.at.After-value_of-least c).Start

  least : to_z w32 (of_z w32 c.value_of-least.result) ≡ value_of (width_of start.args.format) start.args.signed 0
  least = to_z-of_z w32 c.value_of-least.result (search rules) ∙ c.value_of-least.ensures

  room : start.args.at + descriptor_size (width_of start.args.format) (get_or start.args.s.now start.args.at 0) ≤ length start.args.s.now
  room = start.requires.0

pub attribute_at-found-requires : goal.attribute_at-found-requires
unfolding descriptor_size attributes_size value_of offset
attribute_at-found-requires c = ((false, refl), omega (arith, room c))

pub attribute_at-found-requires-2 : goal.attribute_at-found-requires-2
unfolding descriptor_size attributes_size
attribute_at-found-requires-2 c =
    let a = (goal.at.attribute_at-found-requires-2 c).After-attribute_at-found in
    let v = (goal.at.After-attribute_at-found a).After-value_of-least in
    (((start v).args.signed, least v), omega (arith, room v, a.attribute_at-found.ensures.1))

pub attribute_at-found-requires-3 : goal.attribute_at-found-requires-3
unfolding descriptor_size attributes_size
attribute_at-found-requires-3 c =
    let b = (goal.at.attribute_at-found-requires-3 c).After-attribute_at-found-2 in
    let a = (goal.at.After-attribute_at-found-2 b).After-attribute_at-found in
    let v = (goal.at.After-attribute_at-found a).After-value_of-least in
    (((start v).args.signed, least v), omega (arith, room v, a.attribute_at-found.ensures.1, b.attribute_at-found-2.ensures.1))

pub attribute_at-found-requires-4 : goal.attribute_at-found-requires-4
unfolding descriptor_size attributes_size
attribute_at-found-requires-4 c =
    let d = (goal.at.attribute_at-found-requires-4 c).After-attribute_at-found-3 in
    let b = (goal.at.After-attribute_at-found-3 d).After-attribute_at-found-2 in
    let a = (goal.at.After-attribute_at-found-2 b).After-attribute_at-found in
    let v = (goal.at.After-attribute_at-found a).After-value_of-least in
    (((start v).args.signed, least v), omega (arith, room v, a.attribute_at-found.ensures.1, b.attribute_at-found-2.ensures.1, d.attribute_at-found-3.ensures.1))

pub attribute_at-found-requires-5 : goal.attribute_at-found-requires-5
unfolding descriptor_size attributes_size value_of offset
attribute_at-found-requires-5 c =
    let e = (goal.at.attribute_at-found-requires-5 c).After-attribute_at-found-4 in
    let d = (goal.at.After-attribute_at-found-4 e).After-attribute_at-found-3 in
    let b = (goal.at.After-attribute_at-found-3 d).After-attribute_at-found-2 in
    let a = (goal.at.After-attribute_at-found-2 b).After-attribute_at-found in
    let v = (goal.at.After-attribute_at-found a).After-value_of-least in
    ((false, refl), omega (arith, room v, a.attribute_at-found.ensures.1, b.attribute_at-found-2.ensures.1, d.attribute_at-found-3.ensures.1, e.attribute_at-found-4.ensures.1))

pub returns : goal.returns
unfolding descriptor_size attributes_size value_of offset
returns c channel sign =
    let f = (goal.at.returns c).After-attribute_at-found-5 in
    let e = (goal.at.After-attribute_at-found-5 f).After-attribute_at-found-4 in
    let d = (goal.at.After-attribute_at-found-4 e).After-attribute_at-found-3 in
    let b = (goal.at.After-attribute_at-found-3 d).After-attribute_at-found-2 in
    let a = (goal.at.After-attribute_at-found-2 b).After-attribute_at-found in
    let v = (goal.at.After-attribute_at-found a).After-value_of-least in
    attributes-read _ channel _ _ (start v).args.signed sign _ _ _ _ _ (omega (arith, room v)) (start v).requires.1
    (a.attribute_at-found.ensures.0 false refl)
    (b.attribute_at-found-2.ensures.0 _ (least v))
    (d.attribute_at-found-3.ensures.0 _ (least v))
    (e.attribute_at-found-4.ensures.0 _ (least v))
    (f.attribute_at-found-5.ensures.0 false refl)
    (omega (arith, a.attribute_at-found.ensures.1, b.attribute_at-found-2.ensures.1, d.attribute_at-found-3.ensures.1, e.attribute_at-found-4.ensures.1, f.attribute_at-found-5.ensures.1))
