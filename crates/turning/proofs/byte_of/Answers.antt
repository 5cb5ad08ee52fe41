-- `turning::byte_of` meets its contract: each arm is the one byte of what is stored for the number.
use mathlib.Core.Path.{◌≡◌, sym, ◌∙◌}
use mir.Syntax.{w32}
use mir.ValLaws.{to_z-of_z}
use Rattle.values.specs.Values.{stored_sample}
use Rattle.turning.proofs.Putting.{sample-byte}
use Rattle.turning.proofs.byte_of.Goals as goal
use Rattle.turning.proofs.byte_of.Goals.{After-stored_sample}

-- what is stored for it
found : (c : After-stored_sample) → stored_sample 1 c.args.channel c.args.value ≡ c.stored_sample.result
found c = sym (c.stored_sample.ensures ∙ rw (to_z-of_z w32 c.args.value c.ranges.value))

pub returns-in-Some : goal.returns-in-Some
returns-in-Some c = sym (sample-byte _ _ (found (goal.at.returns-in-Some c).After-stored_sample ∙ c.in-Some.is))

pub returns-in-None : goal.returns-in-None
returns-in-None c = sym (sample-byte _ _ (found (goal.at.returns-in-None c).After-stored_sample ∙ c.in-None.is))
