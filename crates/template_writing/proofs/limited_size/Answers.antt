-- `templates::limited_size` meets its contract: a number has at most three bytes, and its field two more.
use mathlib.Core.Path.{refl}
use native.Mathlib.Omega.{arith}
use Rattle.template_writing.proofs.Laying.{length-shortest, limited-none, limited-field}
use Rattle.template_writing.proofs.limited_size.Goals as goal

pub returns-then-not-limited : goal.returns-then-not-limited
returns-then-not-limited c = rw (limited-none _ c.args.maximum (c.if-not-limited.true)) (refl, omega arith)

pub returns : goal.returns
returns c =
    let a = c.args in
    rw (limited-field _ a.maximum (c.if-not-limited.false)) (omega (arith, c.fewest.ensures.0, length-shortest a.maximum), omega (arith, c.fewest.ensures.1))
