-- `list::put_file` is safe and ends: each step over a record leads on.
use Rattle.std.specs.Prelude.{◌≡◌, Ok, Some}
use Rattle.std.proofs.Common.{arith, rules}
use Rattle.walks.specs.StepLaws.{step-on}
use Rattle.list.proofs.put_file.Goals as goal
use Rattle.list.proofs.put_file.Goals.{In-Some-Ok}

-- the record that the step is over
over : (c : In-Some-Ok) → c.step_at-step.result.found ≡ Some (Ok c.in-Some-Ok.extent)
over c = search rules

pub loop-extent-smaller : goal.loop-extent-smaller
loop-extent-smaller c = omega (arith, step-on _ _ _ c.step_at-step.ensures (over (goal.at.loop-extent-smaller c).In-Some-Ok))

pub loop-extent-preserved : goal.loop-extent-preserved
loop-extent-preserved c = omega (arith, step-on _ _ _ c.step_at-step.ensures (over (goal.at.loop-extent-preserved c).In-Some-Ok))
