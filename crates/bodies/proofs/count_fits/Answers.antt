-- `bodies::count_fits` meets its contract: each way through the tests is one of the definition's.
use borrow.Author.Tests.{eq-eqb, ne_eqb, le-leb, lt-leb}
use Rattle.bodies.specs.Writing.{count_fits}
use Rattle.bodies.proofs.count_fits.Goals as goal

pub returns-then-count-eq0 : goal.returns-then-count-eq0
unfolding count_fits
returns-then-count-eq0 c = rw (le-leb _ _ c.if-count-le16777215.true, eq-eqb _ _ c.if-count-eq0.true)

pub returns-else-count-eq0 : goal.returns-else-count-eq0
unfolding count_fits
returns-else-count-eq0 c = rw (le-leb _ _ c.if-count-le16777215.true, ne_eqb _ _ c.if-count-eq0.false)

pub returns-else-count-le16777215 : goal.returns-else-count-le16777215
unfolding count_fits
returns-else-count-le16777215 c = rw (lt-leb _ _ c.if-count-le16777215.false)
