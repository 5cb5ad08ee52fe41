-- `templates::is_shortest` meets its contract: by the number of bytes, and then the first.
use native.Mathlib.Omega.{arith}
use borrow.Author.Tests.{le-leb, lt-leb, eq-eqb, ne_eqb}
use lib.ListN.{length}
use Rattle.templates.specs.Reading.{is_shortest}
use Rattle.templates.proofs.is_shortest.Goals as goal

pub returns-then-content-eq0 : goal.returns-then-content-eq0
unfolding is_shortest
returns-then-content-eq0 c = rw (lt-leb 1 (length c.args.content.now) (omega arith))

pub returns-then-content-gt3 : goal.returns-then-content-gt3
unfolding is_shortest
returns-then-content-gt3 c =
    let n = length c.args.content.now in
    rw (le-leb 1 n (omega arith), lt-leb n 3 (omega arith))

pub returns-then-content-eq1 : goal.returns-then-content-eq1
unfolding is_shortest
returns-then-content-eq1 c =
    let n = length c.args.content.now in
    rw (le-leb 1 n (omega arith), le-leb n 3 (omega arith), eq-eqb n 1 (omega arith))

pub returns : goal.returns
unfolding is_shortest
returns c =
    let n = length c.args.content.now in
    rw (le-leb 1 n (omega arith), le-leb n 3 (omega arith), ne_eqb n 1 c.if-content-eq1.false)
