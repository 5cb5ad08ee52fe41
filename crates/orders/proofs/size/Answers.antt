-- `orders::size` meets its contract. The invariant: all that are stored are those counted and those left.
use mathlib.Core.Path.{◌≡◌}
use Prim.Native.Nat.{◌<◌}
use native.Mathlib.Omega.{arith}
use borrow.Author.Rules.{rules}
use lib.ListN.{length}
use Rattle.points.specs.Points.{channels}
use Rattle.orders.specs.Parts.{many}
use Rattle.orders.proofs.Left.{many-out, many-in, many-none}
use Rattle.orders.proofs.size.Goals as goal
use Rattle.orders.proofs.size.Goals.{At-loop-is_stored, Start, then-is_stored, else-is_stored}

sixteen : (s : Start) → length s.args.stored ≡ 16
sixteen s = search rules

pub loop-is_stored-init : goal.loop-is_stored-init
unfolding channels many
loop-is_stored-init c = (omega arith, omega arith)

pub overflow_add-n : goal.overflow_add-n
overflow_add-n c = omega arith

pub loop-is_stored-preserved : goal.loop-is_stored-preserved
loop-is_stored-preserved c =
    let l = (goal.at.loop-is_stored-preserved c).At-loop-is_stored in
    let stored = l.args.stored in
    let h : l.loop-is_stored.is_stored-index < length stored = omega (arith, sixteen (goal.at.At-loop-is_stored l).Start) in
    let q = l.loop-is_stored.invariant.1 in
    elim c.if-is_stored.branch [
      | then-is_stored w ↦ rw w.n-is (omega arith, omega (arith, q, many-in stored l.loop-is_stored.is_stored-index h w.if-is_stored.true))
      | else-is_stored w ↦ rw w.n-is (omega arith, omega (arith, q, many-out stored l.loop-is_stored.is_stored-index h w.if-is_stored.false))
    ]

pub returns : goal.returns
returns c =
    let l = (goal.at.returns c).At-loop-is_stored in
    (omega (arith, l.loop-is_stored.invariant.1, many-none l.args.stored l.loop-is_stored.is_stored-index (omega (arith, sixteen (goal.at.At-loop-is_stored l).Start))), omega arith)
