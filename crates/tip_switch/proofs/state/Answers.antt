-- `tip_switch::state` meets its contract: a byte is no more than 32 bits hold, so its number stays.
use native.Mathlib.Omega.{arith}
use mir.Syntax.{w32}
use mir.ValLaws.{to_z_pos}
use Rattle.tip_switch.specs.Switch.{state_of}
use Rattle.tip_switch.proofs.state.Goals as goal

pub returns : goal.returns
unfolding state_of
returns c = to_z_pos w32 c.args.byte (omega arith)
