-- `points::walk_points` meets its contract. The invariant: the steps left from the next point end as all of them do from the start.
use Rattle.std.specs.Prelude.{Ok}
use mathlib.Core.Path.{◌≡◌, sym, subst, ◌∙◌}
use Prim.Native.Nat.{ℕ, ◌≤◌, ◌+◌, ◌*◌}
use native.Mathlib.Nat.{sub-zero, mul-le-mul_right}
use native.Mathlib.Omega.{arith}
use lib.ListN.{length}
use Rattle.formats.specs.Jump.{ends_there}
use Rattle.formats.specs.Told.{repeated-done, repeated-failed, repeated-none}
use Rattle.tip_switch.specs.Switch.{state-found, state-refused}
use Rattle.points.specs.Parts.{switched}
use Rattle.points.proofs.Walk.{switched-bad, switched-ends}
use Rattle.points.proofs.walk_points.Invariants.{Left}
use Rattle.points.proofs.walk_points.Goals as goal
use Rattle.points.proofs.walk_points.Goals.{After-loop, After-state_of-state, At-loop, In-loop, Start, Then-whole-count}

pub whole_points-whole-requires : goal.whole_points-whole-requires
whole_points-whole-requires c = omega arith

pub loop-init : goal.loop-init
loop-init c = let s = c.args in let z : s.start ≡ s.start + 0 * s.width = omega arith in (omega arith, rw (sub-zero, ← z))

-- a whole point is there
module _ (t : In-loop) where
  abbrev turn : At-loop
  turn = (goal.at.In-loop t).At-loop

  abbrev start : Start
  start = (goal.at.At-loop turn).Start

  abbrev at : ℕ
  at = start.args.start + turn.loop.counter * start.args.width

  there : at + start.args.width ≤ length start.args.bytes.now
  there =
      omega (
        arith,
        turn.whole_points-whole.ensures.1,
        mul-le-mul_right {m = turn.loop.counter + 1} {n = turn.whole_points-whole.result} start.args.width (omega (arith, t.loop-test.true)),
        start.requires.0,
      )

pub bounds-bytes-switch : goal.bounds-bytes-switch
bounds-bytes-switch c = omega (arith, (turn (goal.at.bounds-bytes-switch c).In-loop).loop.invariant.0, there (goal.at.bounds-bytes-switch c).In-loop)

pub returns-in_default : goal.returns-in_default
returns-in_default c =
    let x = (goal.at.returns-in_default c).After-state_of-state in
    let t = (goal.at.After-state_of-state x).In-loop in
    let z = (turn t).loop.invariant.0 in
    let f = state-refused _ (sym x.state_of-state.ensures ∙ c.in_default.is) in
    rw z
    (sym
    ((turn t).loop.invariant.1
    ∙ repeated-failed _ _ _ _ (omega (arith, t.loop-test.true, (turn t).whole_points-whole.ensures.0)) (switched-bad _ _ _ _ (omega (arith, there t)) (rw z at f))))

pub overflow_add-switch-in-loop : goal.overflow_add-switch-in-loop
overflow_add-switch-in-loop c = let t = (goal.at.overflow_add-switch-in-loop c).In-loop in record { fits = omega (arith, (turn t).loop.invariant.0, there t) }

pub loop-preserved : goal.loop-preserved
loop-preserved c =
    let x = (goal.at.loop-preserved c).After-state_of-state in
    let t = (goal.at.After-state_of-state x).In-loop in
    let z = (turn t).loop.invariant.0 in
    let f = state-found _ (sym x.state_of-state.ensures ∙ c.in-Some.is) in
    let a = (start t).args in
    let e : switched a.bytes.now (at t) a.width a.offset ≡ Ok (at t + a.width) =
    switched-ends a.bytes.now (at t) a.width a.offset (omega (arith, there t, (start t).requires.1)) (rw z at f.0) ∙ ends_there a.bytes.now (at t) a.width (there t) in
    let y : at t + a.width ≡ a.start + ((turn t).loop.counter + 1) * a.width = omega arith in
    (omega (arith, z), rw (← y) ((turn t).loop.invariant.1 ∙ repeated-done _ _ _ _ (omega (arith, t.loop-test.true, (turn t).whole_points-whole.ensures.0)) e))

-- behind the whole points
module _ (c : After-loop) where
  abbrev last : At-loop
  last = (goal.at.After-loop c).At-loop

  abbrev whole : ℕ
  whole = last.whole_points-whole.result

  abbrev all : Start
  all = (goal.at.At-loop last).Start

  passed : last.loop.counter ≡ whole
  passed = omega (arith, last.loop.auto.counter-end, c.loop-test.false)

  left : let a = all.args in Left a.bytes.now a.start a.width a.offset a.count whole
  left = let a = all.args in subst (Left a.bytes.now a.start a.width a.offset a.count) passed last.loop.invariant.1

  within : all.args.start + whole * all.args.width ≤ length all.args.bytes.now
  within = omega (arith, last.whole_points-whole.ensures.1, all.requires.0)

pub overflow_mul-end : goal.overflow_mul-end
overflow_mul-end c = record { fits = omega (arith, within c) }

pub overflow_add-end : goal.overflow_add-end
overflow_add-end c = record { fits = omega (arith, within c) }

pub cut-requires : goal.cut-requires
cut-requires c = within (goal.at.cut-requires c).After-loop

pub returns-then-whole-count : goal.returns-then-whole-count
returns-then-whole-count c =
    let t = (goal.at.returns-then-whole-count c).Then-whole-count in
    let e = (goal.at.Then-whole-count t).After-loop in
    let h = (last e).whole_points-whole.ensures.2 t.if-whole-count.true in
    sym (left e ∙ repeated-failed _ _ _ _ (omega (arith, t.if-whole-count.true)) (sym (c.cut.ensures (all e).args.width (omega (arith, h)))))

pub returns : goal.returns
returns c = let e = (goal.at.returns c).After-loop in sym (left e ∙ repeated-none _ _ _ _ (omega (arith, c.if-whole-count.false)))
