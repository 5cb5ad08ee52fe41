-- `templates::end_of` meets its contract: the two tests are the definition's.
use native.Mathlib.Omega.{arith}
use borrow.Author.Tests.{le-leb, lt-leb, lt-ltb, le-ltb}
use Rattle.templates.specs.Reading.{end_of}
use Rattle.templates.proofs.end_of.Goals as goal

pub returns-then-s-at : goal.returns-then-s-at
unfolding end_of
returns-then-s-at c = rw (le-leb _ _ c.if-s-at.true)

pub overflow_cast-size : goal.overflow_cast-size
overflow_cast-size c = omega (arith, c.shared_slice_known-1.given c.args.at)

pub returns-then-s-at-2 : goal.returns-then-s-at-2
unfolding end_of
returns-then-s-at-2 c = rw (lt-leb _ _ c.if-s-at.false, lt-ltb _ _ c.if-s-at-2.true)

pub returns : goal.returns
unfolding end_of
returns c = rw (lt-leb _ _ c.if-s-at.false, le-ltb _ _ c.if-s-at-2.false)
