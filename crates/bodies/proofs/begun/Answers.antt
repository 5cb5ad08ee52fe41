-- `bodies::begun` meets its contract: a width of none, and the two ways that a division can end.
use native.Mathlib.Omega.{arith}
use Rattle.bodies.proofs.Bodies.{none-begun, all-begun, more-begun, more_within}
use Rattle.bodies.proofs.begun.Goals as goal

pub returns-then-width-eq0 : goal.returns-then-width-eq0
returns-then-width-eq0 c = none-begun _ _ c.if-width-eq0.true

pub returns-then-bytes-width-eq0 : goal.returns-then-bytes-width-eq0
returns-then-bytes-width-eq0 c = all-begun _ _ c.if-width-eq0.false c.if-bytes-width-eq0.true

pub overflow_add-result : goal.overflow_add-result
overflow_add-result c =
    let z = more_within _ _ c.if-width-eq0.false c.if-bytes-width-eq0.false in
    record { fits = omega (arith, z, c.ranges.bytes.fits) }

pub returns : goal.returns
returns c = more-begun _ _ c.if-width-eq0.false c.if-bytes-width-eq0.false
