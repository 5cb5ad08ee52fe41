-- `description_writing::put_attribute` meets its contract: what is stored for a number that fits is how far it is above the least, and no bits of that are lost.
use mathlib.Core.Path.{◌≡◌, sym, ap, ap₂, ◌∙◌}
use mathlib.Core.Bool.{Bool, true, cond}
use Prim.Native.Nat.{ℕ, ◌+◌, ◌≤◌}
use native.Mathlib.Omega.{arith}
use borrow.Author.Rules.{rules}
use borrow.Author.Tests.{not-true, not-false}
use lib.Dec.{T}
use lib.IntN.{nat_abs, ◌-ℤ◌}
use lib.ListN.{length}
use mir.Syntax.{w32}
use mir.Val.{to_z, of_z}
use mir.ValLaws.{to_z-of_z}
use Rattle.formats.specs.Laid.{laid_none}
use Rattle.formats.specs.Number.{digits}
use Rattle.channels.specs.Channel.{width_of}
use Rattle.stored_numbers.specs.NumberLaws.{part-laid}
use Rattle.channels.specs.Stored.{value_of, stored_of, fits, stored-above}
use Rattle.channels.proofs.Numbers.{above-fits}
use Rattle.descriptions.specs.Description.{encode_attribute}
use Rattle.description_writing.proofs.Laying.{attribute-none, attribute-given, attribute-length, fits-given}
use Rattle.description_writing.proofs.put_attribute.Goals as goal
use Rattle.description_writing.proofs.put_attribute.Goals.{After-put_number, After-struct_known-2-1, After-struct_told-1, After-width, Start}

pub returns-then-not-attribute : goal.returns-then-not-attribute
returns-then-not-attribute c signed e =
    let a = c.args in
    rw (attribute-none (width_of a.format) signed a.attribute (not-true a.attribute.given c.if-not-attribute.true)) (laid_none _ _)

-- the number is given and fits; how far it is above the least, as the machine has it
module _ (c : After-struct_told-1) where
  abbrev start : Start
  start = (goal.at.After-struct_told-1 c).Start

  abbrev width : ℕ
  width = width_of start.args.format

  given : start.args.attribute.given ≡ true
  given = not-false start.args.attribute.given c.if-not-attribute.false

  fitting : T (fits width start.requires.0 start.args.attribute.number)
  fitting = fits-given _ _ _ given start.requires.2

  above : to_z w32 (of_z w32 start.args.attribute.number) -ℤ to_z w32 (of_z w32 start.args.least) ≡ start.args.attribute.number -ℤ value_of width start.requires.0 0
  above = ap₂ ◌-ℤ◌ (to_z-of_z w32 start.args.attribute.number (search rules)) (to_z-of_z w32 start.args.least start.ranges.least ∙ start.requires.1)

pub overflow_sub-number : goal.overflow_sub-number
overflow_sub-number c = rw (above c) (above-fits (start c).args.format _ _ (fitting c)).0

pub overflow_cast-number : goal.overflow_cast-number
overflow_cast-number c = let f = above-fits (start c).args.format _ _ (fitting c) in rw (above c, to_z-of_z w32 _ f.0) f.1

-- its digits are the attribute
module _ (c : After-struct_told-1) (signed : Bool) (e : (start c).args.least ≡ value_of (width c) signed 0) where
  stored : nat_abs (to_z w32 (of_z w32 (to_z w32 (of_z w32 (start c).args.attribute.number) -ℤ to_z w32 (of_z w32 (start c).args.least))))
      ≡ stored_of (width c) signed (start c).args.attribute.number
  unfolding stored_of
  stored =
      let v = (start c).args.attribute.number in
      ap nat_abs
      (ap (λ z. to_z w32 (of_z w32 z)) (above c)
      ∙ to_z-of_z w32 _ (above-fits (start c).args.format _ _ (fitting c)).0
      ∙ ap (λ z. v -ℤ z) (sym (start c).requires.1 ∙ e)
      ∙ stored-above (width c) signed v)

  written : encode_attribute (width c) signed (start c).args.attribute
      ≡ digits (width c) (nat_abs (to_z w32 (of_z w32 (to_z w32 (of_z w32 (start c).args.attribute.number) -ℤ to_z w32 (of_z w32 (start c).args.least)))))
  written = attribute-given _ _ _ (given c) ∙ ap (digits _) (sym stored)

-- there is room for as many bytes as the number has
room : (v : After-width) → let a = (start (goal.at.After-width v).After-struct_told-1).args in
    a.at + width_of a.format ≤ length a.out.now
room v =
    let t = (goal.at.After-width v).After-struct_told-1 in
    let a = (start t).args in
    let q = (start t).requires in
    omega (arith, q.3.enough, attribute-length (width t) q.0 a.attribute, ap (λ x. cond x (width t) 0) (given t))

pub overflow_add-end : goal.overflow_add-end
overflow_add-end c = omega (arith, room c, c.width.ensures.0)

pub slice_bounds-put_number-end : goal.slice_bounds-put_number-end
slice_bounds-put_number-end c = omega (arith, room c, c.width.ensures.0)

pub returns : goal.returns
returns c signed e =
    let p = (goal.at.returns c).After-put_number in
    let v = (goal.at.After-put_number p).After-width in
    rw (written (goal.at.After-width v).After-struct_told-1 signed e) (part-laid _ _ _ (room v) v.width.result v.width.ensures.0 _ p.put_number.ensures)
