-- `descriptions::inclusion_at` meets its contract: the first byte is judged before the second is looked for, and the channels follow.
use native.Mathlib.Omega.{arith}
use Rattle.descriptions.specs.Read.{behind}
use Rattle.descriptions.proofs.Parts.{description-out, description-bad, description-cut, description-channels}
use Rattle.descriptions.proofs.inclusion_at.Goals as goal
use Rattle.descriptions.proofs.inclusion_at.Goals.{Else-first-lt192}

pub returns-then-s-start : goal.returns-then-s-start
unfolding behind
returns-then-s-start c format = description-out format _ _ (omega arith)

pub returns-then-first-lt192 : goal.returns-then-first-lt192
unfolding behind
returns-then-first-lt192 c format = description-bad format _ _ (omega arith) (omega arith)

pub returns-then-s-start-lt2 : goal.returns-then-s-start-lt2
unfolding behind
returns-then-s-start-lt2 c format =
    let e = (goal.at.returns-then-s-start-lt2 c).Else-first-lt192 in
    let a = e.args in
    description-cut format _ _ (omega arith) (omega arith) (e.shared_slice_known-2-1.given a.start).fits (omega arith)

pub returns : goal.returns
unfolding behind
returns c format =
    let e = (goal.at.returns c).Else-first-lt192 in
    let a = e.args in
    rw c.pair.ensures (description-channels format _ _ (omega arith) (omega arith) (e.shared_slice_known-2-1.given a.start).fits (omega arith))
