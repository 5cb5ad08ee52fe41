-- `record_writing::put_opening` meets its contract: five bytes, the last three the count's digits.
use mathlib.Core.Path.{◌≡◌, ap, ◌∙◌}
use mathlib.Core.Bool.{cond}
use Prim.Native.Nat.{◌+◌, ◌≤◌}
use native.Mathlib.Omega.{arith}
use lib.ListN.{length, length-set}
use Rattle.record_writing.proofs.Laying.{opening-list, laid-five}
use Rattle.record_writing.proofs.put_opening.Goals as goal
use Rattle.record_writing.proofs.put_opening.Goals.{then-wanted, else-wanted, Joined-wanted, Start}

-- there is room for five bytes
five : (s : Start) → s.args.at + 5 ≤ length s.args.out.now
five s = omega (arith, s.requires.1.enough, ap length (opening-list s.args.wanted s.args.count s.requires.0))

-- the opening byte
opening : (c : Joined-wanted) → c.if-wanted.out ≡ cond c.args.wanted 0x80 0x00
opening c =
    elim c.if-wanted.branch [ then-wanted w ↦ w.out-is ∙ rw w.if-wanted.true | else-wanted w ↦ w.out-is ∙ rw w.if-wanted.false ]

pub bounds-out-at : goal.bounds-out-at
bounds-out-at c = omega (arith, five c)

pub bounds-out-at-2 : goal.bounds-out-at-2
bounds-out-at-2 c = simp length-set (omega (arith, five (goal.at.bounds-out-at-2 c).Start))

pub bounds-out-at-3 : goal.bounds-out-at-3
bounds-out-at-3 c = simp length-set (omega (arith, five (goal.at.bounds-out-at-3 c).Start))

pub bounds-out-at-4 : goal.bounds-out-at-4
bounds-out-at-4 c = simp length-set (omega (arith, five (goal.at.bounds-out-at-4 c).Start))

pub bounds-out-at-5 : goal.bounds-out-at-5
bounds-out-at-5 c = simp length-set (omega (arith, five (goal.at.bounds-out-at-5 c).Start))

pub returns : goal.returns
returns c =
    let s = (goal.at.returns c).Start in
    rw (opening-list s.args.wanted s.args.count s.requires.0, ← opening c) (laid-five _ _ _ _ _ _ _)
