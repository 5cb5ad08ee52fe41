-- `stored_numbers::number_at` meets its contract: the two tests together are the definition's, and then it is one byte or two, by the format.
use mathlib.Core.Path.{◌≡◌, sym, ap, ◌∙◌}
use Prim.Native.Nat.{◌+◌, ◌≤◌}
use native.Mathlib.Omega.{arith}
use lib.ListN.{length}
use Rattle.formats.specs.Number.{value-one, value-two}
use Rattle.channels.specs.Channel.{width_of}
use Rattle.stored_numbers.specs.Numbers.{number_at}
use Rattle.stored_numbers.specs.NumberLaws.{number-there, number_cut}
use Rattle.channels.specs.declared.Format.{Format}
use Rattle.stored_numbers.proofs.number_at.Goals as goal
use Rattle.stored_numbers.proofs.number_at.Goals.{Else-bytes-width-2, In-Compact, In-Full, Start}

pub returns-then-bytes-width : goal.returns-then-bytes-width
returns-then-bytes-width c = sym (number_cut _ _ _ (omega (arith, c.width-width.ensures.0)))

pub returns-then-bytes-width-2 : goal.returns-then-bytes-width-2
returns-then-bytes-width-2 c = sym (number_cut _ _ _ (omega (arith, c.width-width.ensures.0)))

-- the bytes are there, in the format that it is
module _ (c : Else-bytes-width-2) where
  abbrev start : Start
  start = (goal.at.Else-bytes-width-2 c).Start

  there : start.args.at + width_of start.args.format ≤ length start.args.bytes.now
  there = omega (arith, c.width-width.ensures.0)

  room : {f : Format} → start.args.format ≡ f → start.args.at + width_of f ≤ length start.args.bytes.now
  room e = omega (arith, there, ap width_of e)

pub bounds-bytes-at : goal.bounds-bytes-at
bounds-bytes-at c = let e = (goal.at.bounds-bytes-at c).In-Full in omega (arith, room (goal.at.In-Full e).Else-bytes-width-2 e.in-Full.is)

pub bounds-bytes-at-in-Full : goal.bounds-bytes-at-in-Full
bounds-bytes-at-in-Full c = let e = (goal.at.bounds-bytes-at-in-Full c).In-Full in omega (arith, room (goal.at.In-Full e).Else-bytes-width-2 e.in-Full.is)

pub bounds-bytes-at-in-Compact : goal.bounds-bytes-at-in-Compact
bounds-bytes-at-in-Compact c = let e = (goal.at.bounds-bytes-at-in-Compact c).In-Compact in omega (arith, room (goal.at.In-Compact e).Else-bytes-width-2 e.in-Compact.is)

pub returns-in-Full : goal.returns-in-Full
returns-in-Full c =
    let e = (goal.at.returns-in-Full c).In-Full in
    let q = e.in-Full.is in
    let a = (start (goal.at.In-Full e).Else-bytes-width-2).args in
    c.pair.ensures ∙ sym (ap (λ f. number_at (width_of f) a.bytes.now a.at) q ∙ number-there 2 _ _ (room (goal.at.In-Full e).Else-bytes-width-2 q) ∙ value-two a.bytes.now a.at)

pub returns-in-Compact : goal.returns-in-Compact
returns-in-Compact c =
    let e = (goal.at.returns-in-Compact c).In-Compact in
    let q = e.in-Compact.is in
    let a = (start (goal.at.In-Compact e).Else-bytes-width-2).args in
    c.pair-in-Compact.ensures ∙ sym (ap (λ f. number_at (width_of f) a.bytes.now a.at) q ∙ number-there 1 _ _ (room (goal.at.In-Compact e).Else-bytes-width-2 q) ∙ value-one a.bytes.now a.at)
