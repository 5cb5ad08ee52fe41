-- `tip_switch::state_of` meets its contract: the test is the definition's.
use native.Mathlib.Omega.{arith}
use borrow.Author.Rules.{rules}
use borrow.Author.Tests.{le-leb, lt-leb}
use mir.Syntax.{w32}
use mir.ValLaws.{to_z-of_z}
use Rattle.tip_switch.specs.Switch.{state_if}
use Rattle.tip_switch.proofs.state_of.Goals as goal

pub returns-then-byte-gt1 : goal.returns-then-byte-gt1
unfolding state_if
returns-then-byte-gt1 c = rw (lt-leb c.args.byte 1 (omega arith))

pub returns : goal.returns
unfolding state_if
returns c = rw (le-leb c.args.byte 1 (omega arith), to_z-of_z w32 c.state.result (search rules), c.state.ensures)
