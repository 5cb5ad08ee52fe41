-- `record_fronts::opened_at` meets its contract: each test of the code decides what the reader answers.
use mathlib.Core.Path.{sym, ap}
use Prim.Native.Nat.{◌+◌}
use native.Mathlib.Omega.{arith}
use lib.ListN.{get_or}
use Rattle.formats.specs.Told.{answered}
use Rattle.record_fronts.specs.Fronted.{opened_as}
use Rattle.record_fronts.proofs.Opening.{reserved-short, reserved-bad, opening-short, opening-refused, count-short, count-ok, opening-bad, opening-good, announces}
use Rattle.record_fronts.proofs.opened_at.Goals as goal
use Rattle.record_fronts.proofs.opened_at.Goals.{After-shared_slice_known-3-1, Else-opening-ne0, Else-s-at-ne0}

pub returns-then-s-at : goal.returns-then-s-at
unfolding answered
returns-then-s-at c = sym (ap opened_as (reserved-short _ _ (omega arith)))

pub returns-then-s-at-ne0 : goal.returns-then-s-at-ne0
unfolding answered
returns-then-s-at-ne0 c = sym (ap opened_as (reserved-bad _ _ (omega arith) c.if-s-at-ne0.true))

pub returns-then-s-at-lt2 : goal.returns-then-s-at-lt2
unfolding answered
returns-then-s-at-lt2 c = sym (ap opened_as (opening-short _ _ (omega arith) c.if-s-at-ne0.false (omega arith)))

pub returns-then-opening-ne0 : goal.returns-then-opening-ne0
unfolding answered
returns-then-opening-ne0 c =
    let k = (goal.at.returns-then-opening-ne0 c).After-shared_slice_known-3-1 in
    let e = (goal.at.After-shared_slice_known-3-1 k).Else-s-at-ne0 in
    let b = k.shared_slice_known-3-1.given (e.args.at + 1) in
    sym (ap opened_as (opening-refused _ _ (omega arith) e.if-s-at-ne0.false (omega arith) (opening-bad _ (omega (arith, b)) c.if-opening-ne0.true)))

pub returns-then-s-at-lt5 : goal.returns-then-s-at-lt5
unfolding answered
returns-then-s-at-lt5 c =
    let o = (goal.at.returns-then-s-at-lt5 c).Else-opening-ne0 in
    let k = (goal.at.Else-opening-ne0 o).After-shared_slice_known-3-1 in
    let e = (goal.at.After-shared_slice_known-3-1 k).Else-s-at-ne0 in
    let b = k.shared_slice_known-3-1.given (e.args.at + 1) in
    sym (ap opened_as (count-short _ _ (omega arith) e.if-s-at-ne0.false (omega arith) (opening-good _ (omega (arith, b)) o.if-opening-ne0.false) (omega arith)))

pub returns : goal.returns
unfolding answered
returns c =
    let o = (goal.at.returns c).Else-opening-ne0 in
    let k = (goal.at.Else-opening-ne0 o).After-shared_slice_known-3-1 in
    let e = (goal.at.After-shared_slice_known-3-1 k).Else-s-at-ne0 in
    let x = e.args in
    let b = k.shared_slice_known-3-1.given (x.at + 1) in
    rw (c.triple.ensures, announces (get_or x.s.now (x.at + 1) 0) (omega (arith, b)) o.if-opening-ne0.false)
    (sym (ap opened_as (count-ok _ _ (omega arith) e.if-s-at-ne0.false (omega arith) (opening-good _ (omega (arith, b)) o.if-opening-ne0.false) (omega arith))))
