-- `descriptions::attribute_at` meets its contract: a number and what it stands for, or nothing.
use mathlib.Core.Path.{◌≡◌, sym, ap, ◌∙◌}
use mathlib.Core.Bool.{Bool, true, cond}
use Prim.Native.Nat.{◌+◌, ◌≤◌}
use native.Mathlib.Omega.{arith}
use lib.IntN.{pos, ◌+ℤ◌}
use lib.ListN.{length}
use mir.Syntax.{w32}
use mir.Val.{SFits, to_z, of_z}
use mir.ValLaws.{to_z_pos, to_z-of_z}
use Rattle.formats.specs.Number as reader
use Rattle.formats.specs.Reader.{ok, read_at}
use Rattle.channels.proofs.Numbers.{value-fits}
use Rattle.channels.specs.Channel.{width_of}
use Rattle.stored_numbers.specs.NumberLaws.{part-read}
use Rattle.channels.specs.Stored.{value_of, value-above}
use Rattle.descriptions.proofs.Parts.{attribute-given, attribute-none}
use Rattle.descriptions.proofs.attribute_at.Goals as goal
use Rattle.descriptions.proofs.attribute_at.Goals.{After-number_at, After-width, Else-not-flag, Start}

pub returns-then-not-flag : goal.returns-then-not-flag
returns-then-not-flag c =
    let a = c.args in
    let e = c.if-not-flag.true in
    let z : cond a.flag (width_of a.format) 0 ≡ 0 = ap (λ x. cond x (width_of a.format) 0) e in
    (λ signed q. attribute-none _ signed _ _ _ e, omega (arith, z))

-- a flag that is set, and the number behind it
given : (c : Else-not-flag) → c.args.flag ≡ true
given c = c.if-not-flag.false

-- the bytes of the number are there
there : (c : After-width) → let a = c.args in
    a.at + width_of a.format ≤ length a.s.now
there c =
    let s = (goal.at.After-width c).Start in
    omega (arith, s.requires.1, ap (λ x. cond x (width_of s.args.format) 0) (given (goal.at.After-width c).Else-not-flag))

pub slice_bounds-number_at-end : goal.slice_bounds-number_at-end
slice_bounds-number_at-end c = omega (arith, there c, c.width.ensures.0)

-- the number that was read: as the machine has it, and as it is meant
module _ (m : After-number_at) where
  abbrev start : Start
  start = (goal.at.After-number_at m).Start

  sum : to_z w32 (of_z w32 start.args.least) +ℤ to_z w32 m.number_at.result ≡ start.args.least +ℤ pos m.number_at.result
  sum = rw (to_z-of_z w32 start.args.least start.ranges.least, to_z_pos w32 m.number_at.result (omega arith))

  fits : SFits w32 (start.args.least +ℤ pos m.number_at.result)
  unfolding value_of
  fits =
      let l = start.requires.0 in
      rw (l.1, value-above (width_of start.args.format) l.0 m.number_at.result) (value-fits start.args.format l.0 m.number_at.result (omega arith))

  meant : (signed : Bool) → start.args.least ≡ value_of (width_of start.args.format) signed 0
      → to_z w32 (of_z w32 (to_z w32 (of_z w32 start.args.least) +ℤ to_z w32 m.number_at.result)) ≡ value_of (width_of start.args.format) signed m.number_at.result
  meant signed e =
      rw sum (to_z-of_z w32 _ fits) ∙ ap (λ z. z +ℤ pos m.number_at.result) e ∙ value-above (width_of start.args.format) signed m.number_at.result

-- it is the one that stands there
number : (c : After-number_at) → let a = (start c).args in
    read_at (reader.number (width_of a.format)) a.s.now a.at ≡ ok c.number_at.result (a.at + width_of a.format)
number c = let v = (goal.at.After-number_at c).After-width in part-read _ _ _ (there v) v.width.result v.width.ensures.0 c.number_at.ensures

pub overflow_add-number : goal.overflow_add-number
overflow_add-number c = rw (sum c) (fits c)

pub returns : goal.returns
returns c =
    let v = (goal.at.returns c).After-width in
    let a = (start c).args in
    let z = ap (λ k. a.at + k) (sym v.width.ensures.0) in (
      λ signed e. attribute-given _ signed _ _ _ (given (goal.at.After-width v).Else-not-flag) (meant c signed e) (number c) z,
      sym (ap (λ x. a.at + cond x (width_of a.format) 0) (given (goal.at.After-width v).Else-not-flag) ∙ z),
    )
