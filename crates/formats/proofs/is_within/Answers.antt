-- `formats::is_within` meets its contract: the quotient is compared.
use native.Mathlib.Omega.{arith}
use Rattle.formats.proofs.Products.{no_size, by-quotient}
use Rattle.formats.proofs.is_within.Goals as goal

pub returns-then-size-eq0 : goal.returns-then-size-eq0
returns-then-size-eq0 c = no_size _ _ _ c.if-size-eq0.true

pub returns : goal.returns
returns c = let a = c.args in by-quotient a.count a.size a.room (omega arith)
