-- `values::number_in` meets its contract: its two arms are the definition's.
use mathlib.Core.Path.{sym, ap}
use Rattle.values.specs.Values.{number_in}
use Rattle.values.proofs.number_in.Goals as goal

pub returns-in-Some : goal.returns-in-Some
returns-in-Some c = sym (ap number_in c.in-Some.is)

pub returns-in-None : goal.returns-in-None
returns-in-None c = sym (ap number_in c.in-None.is)
