-- `record_writing::record_size` meets its contract: no sum is too large, since a count, a description and extended data have their limits.
use Prim.Native.Nat.{◌+◌, ◌*◌, ◌≤◌}
use native.Mathlib.Nat.{mul-le-mul}
use native.Mathlib.Omega.{arith}
use Rattle.record_writing.proofs.Laying.{extended-length, no-extended-length}
use Rattle.record_writing.proofs.record_size.Goals as goal
use Rattle.record_writing.proofs.record_size.Goals.{Start}

-- what stands before the extended data
module _ (s : Start) where
  points : s.args.count * s.args.width ≤ 16777215 * 32
  points = mul-le-mul {n₁ = s.args.count} {m₁ = s.args.width} {n₂ = 16777215} {m₂ = 32} (omega (arith, s.requires.2)) (omega (arith, s.requires.1))

  front : s.args.described + s.args.count * s.args.width ≤ 536871058
  front = omega (arith, points, s.requires.0)

pub overflow_mul-front : goal.overflow_mul-front
overflow_mul-front c = record { fits = omega (arith, points c) }

pub overflow_add-front : goal.overflow_add-front
overflow_add-front c = record { fits = omega (arith, front c) }

pub overflow_add-result-then-wanted : goal.overflow_add-result-then-wanted
overflow_add-result-then-wanted c = record { fits = omega (arith, front (goal.at.overflow_add-result-then-wanted c).Start, c.requires.3 (rw c.if-wanted.true tt)) }

pub overflow_add-result-then-wanted-2 : goal.overflow_add-result-then-wanted-2
overflow_add-result-then-wanted-2 c = record { fits = omega (arith, front (goal.at.overflow_add-result-then-wanted-2 c).Start, c.requires.3 (rw c.if-wanted.true tt)) }

pub returns-then-wanted : goal.returns-then-wanted
returns-then-wanted c = omega (arith, extended-length c.args.extended.now c.args.wanted c.if-wanted.true)

pub overflow_add-result-2 : goal.overflow_add-result-2
overflow_add-result-2 c = record { fits = omega (arith, front (goal.at.overflow_add-result-2 c).Start) }

pub returns : goal.returns
returns c = omega (arith, no-extended-length c.args.extended.now c.args.wanted c.if-wanted.false)
