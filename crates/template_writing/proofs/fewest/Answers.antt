-- `templates::fewest` meets its contract: the tests are the definition's.
use mathlib.Core.Path.{sym}
use native.Mathlib.Omega.{arith}
use Rattle.templates.specs.EncodedLaws.{one_byte, two_bytes, three-bytes}
use Rattle.template_writing.proofs.fewest.Goals as goal

pub returns-then-number-lt256 : goal.returns-then-number-lt256
returns-then-number-lt256 c = (sym (one_byte _ c.if-number-lt256.true), omega arith)

pub returns-then-number-lt65536 : goal.returns-then-number-lt65536
returns-then-number-lt65536 c = (sym (two_bytes _ c.if-number-lt256.false c.if-number-lt65536.true), omega arith)

pub returns : goal.returns
returns c = (sym (three-bytes _ c.if-number-lt65536.false), omega arith)
