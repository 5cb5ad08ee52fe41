-- `hexadecimal::bytes_in` puts a byte only where there is room: each turn takes one pair more.
use lib.ListN.{length-set}
use native.Mathlib.Omega.{arith}
use borrow.Author.Tests.{leb-false}
use Rattle.hexadecimal.proofs.bytes_in.Goals as goal

pub loop-at-preserved : goal.loop-at-preserved
loop-at-preserved c = (omega (arith, leb-false), simp (length-set, c.loop-at.invariant.1))
