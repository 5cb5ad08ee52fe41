-- `points::cut` meets its contract: a point that is cut does not end in the bytes.
use mathlib.Core.Path.{sym, ◌∙◌}
use native.Mathlib.Omega.{arith}
use Rattle.formats.specs.Jump.{ends-short}
use Rattle.tip_switch.specs.Switch.{state-found, state-refused}
use Rattle.points.proofs.Walk.{switched-short, switched-bad, switched-ends}
use Rattle.points.proofs.cut.Goals as goal

pub returns-then-bytes-start : goal.returns-then-bytes-start
returns-then-bytes-start c width h = sym (switched-short _ _ width _ (omega arith))

pub returns-in-Some : goal.returns-in-Some
returns-in-Some c width h =
    let f = state-found _ (sym c.state_of.ensures ∙ c.in-Some.is) in
    sym (switched-ends _ _ width _ (omega arith) f.0 ∙ ends-short _ _ width h)

pub returns-in-None : goal.returns-in-None
returns-in-None c width h =
    let f = state-refused _ (sym c.state_of.ensures ∙ c.in-None.is) in
    sym (switched-bad _ _ width _ (omega arith) f)
