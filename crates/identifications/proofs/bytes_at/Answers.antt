-- `identifications::bytes_at` meets its contract. The invariant: the whole is told as the bytes left are from here.
use mathlib.Core.Path.{◌≡◌, sym, ◌∙◌}
use mathlib.Core.List.{◌∷◌}
use Prim.Native.Nat.{◌<◌, ◌+◌}
use native.Mathlib.Omega.{arith}
use native.Mathlib.Numerals.{add-one}
use lib.ListN.{length, get_or, drop, drop_of_length-le}
use lib.Seq.{drop-cons}
use Rattle.formats.specs.Told.{matched, matched-short, matched-bad, matched-next}
use Rattle.identifications.proofs.bytes_at.Goals as goal
use Rattle.identifications.proofs.bytes_at.Goals.{At-loop-i, In-loop-i, Start}

pub loop-i-init : goal.loop-i-init
loop-i-init c = let z : c.args.start + 0 ≡ c.args.start = omega arith in (omega arith, rw z)

-- four bytes are expected, and so the next of them is there
four : (s : Start) → length s.args.expected ≡ 4
four s = s.well_formed.1.1.0.1.0.1

next : (l : At-loop-i) → l.loop-i.i < 4
    → drop l.loop-i.i l.args.expected ≡ get_or l.args.expected l.loop-i.i 0 ∷ drop (l.loop-i.i + 1) l.args.expected
next l h = rw add-one (drop-cons l.args.expected l.loop-i.i 0 (omega (arith, four (goal.at.At-loop-i l).Start)))

pub returns-then-s-start : goal.returns-then-s-start
returns-then-s-start c =
    let l = (goal.at.returns-then-s-start c).At-loop-i in
    sym (l.loop-i.invariant.1 ∙ rw (next l c.loop-i-test.true) (matched-short _ _ _ _ _ (omega arith)))

pub bounds-s-start : goal.bounds-s-start
bounds-s-start c = omega arith

pub overflow_add-result : goal.overflow_add-result
overflow_add-result c = omega arith

pub returns-then-s-start-2 : goal.returns-then-s-start-2
returns-then-s-start-2 c =
    let n = (goal.at.returns-then-s-start-2 c).In-loop-i in
    let l = (goal.at.In-loop-i n).At-loop-i in
    sym (l.loop-i.invariant.1 ∙ rw (next l n.loop-i-test.true) (matched-bad _ _ _ _ _ (omega arith) c.if-s-start-2.true))

pub loop-i-preserved : goal.loop-i-preserved
loop-i-preserved c =
    let n = (goal.at.loop-i-preserved c).In-loop-i in
    let l = (goal.at.In-loop-i n).At-loop-i in
    let z : l.args.start + l.loop-i.i + 1 ≡ l.args.start + (l.loop-i.i + 1) = omega arith in
    (omega arith, l.loop-i.invariant.1 ∙ rw (next l n.loop-i-test.true) (rw (← z) (matched-next _ _ _ _ _ (omega arith) c.if-s-start-2.false)))

pub overflow_add-result-2 : goal.overflow_add-result-2
overflow_add-result-2 c = omega arith

pub returns : goal.returns
unfolding matched
returns c =
    let l = (goal.at.returns c).At-loop-i in
    let z : l.loop-i.i ≡ 4 = omega arith in
    sym (l.loop-i.invariant.1 ∙ rw z (rw (drop_of_length-le l.args.expected {i = 4} (omega (arith, four (goal.at.At-loop-i l).Start)))))
