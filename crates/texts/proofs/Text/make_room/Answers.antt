-- `texts::Text::make_room` meets its contract: where there is no room for twenty bytes, nothing is gathered any more.
use native.Mathlib.Omega.{arith}
use borrow.Author.Tests.{lt-ltb, le-ltb}
use mathlib.Core.Path.{refl, ◌∙◌}
use Rattle.texts.specs.Gathered.{room_from}
use Rattle.texts.proofs.Text.make_room.Goals as goal

pub returns-then-full-clause-text : goal.returns-then-full-clause-text
unfolding room_from
returns-then-full-clause-text c = c.write_out.ensures ∙ rw (← c.self.view_is, lt-ltb 65515 c.self.inside.used (omega arith)) refl

pub returns-else-full-clause-text : goal.returns-else-full-clause-text
unfolding room_from
returns-else-full-clause-text c = rw (← c.self.view_is, le-ltb 65515 c.self.inside.used (omega arith)) refl
