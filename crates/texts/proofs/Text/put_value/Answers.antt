-- `texts::Text::put_value` meets its contract: 64 bits hold what 32 do.
use mathlib.Core.Path.{◌∙◌}
use mir.Syntax.{w32, w64}
use mir.ValLaws.{to_z-of_z}
use Rattle.texts.proofs.Numbers.{wide}
use Rattle.texts.proofs.Text.put_value.Goals as goal

pub overflow_cast-value : goal.overflow_cast-value
overflow_cast-value c = rw (to_z-of_z w32 _ c.ranges.value) (wide _ c.ranges.value)

pub returns : goal.returns
returns c = c.put_long.ensures ∙ rw (to_z-of_z w32 _ c.ranges.value, to_z-of_z w64 _ (wide _ c.ranges.value))
