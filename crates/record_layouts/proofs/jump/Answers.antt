-- `record_layouts::jump` meets its contract: the bytes are there, or they are cut.
use mathlib.Core.Path.{sym}
use native.Mathlib.Omega.{arith}
use Rattle.formats.specs.Jump.{ends_there, ends-short}
use Rattle.record_layouts.proofs.jump.Goals as goal

pub returns-then-s-start : goal.returns-then-s-start
returns-then-s-start c = sym (ends-short _ _ _ (omega arith))

pub returns : goal.returns
returns c = sym (ends_there _ _ _ (omega arith))
