-- `words::name` finds the name of its number: the names that are left count from the place that the loop has come to.
use native.Mathlib.Omega.{arith}
use Rattle.words.proofs.Words.{nearer, reached}
use Rattle.words.proofs.name.Goals as goal

pub loop-count-preserved : goal.loop-count-preserved
loop-count-preserved c = λ from to h. c.loop-count.invariant from to (nearer _ _ _ _ _ _ _ from to (omega arith) c.next-span.ensures h)

pub returns : goal.returns
returns c = record { from = c.next-span-2.result.from; to = c.next-span-2.result.to; stands = c.loop-count.invariant _ _ (reached _ _ _ _ _ _ _ (omega arith) c.next-span-2.ensures); bytes = c.part.ensures }
