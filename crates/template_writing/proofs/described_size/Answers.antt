-- `templates::described_size` meets its contract: the field has two bytes more than the description.
use mathlib.Core.Path.{refl}
use native.Mathlib.Omega.{arith}
use Rattle.template_writing.proofs.Laying.{described-none, described-field}
use Rattle.template_writing.proofs.described_size.Goals as goal
use Rattle.template_writing.proofs.described_size.Goals.{Start}

pub returns-then-not-described : goal.returns-then-not-described
returns-then-not-described c = rw (described-none _ c.args.bytes.now (c.if-not-described.true)) (refl, omega arith)

pub returns : goal.returns
returns c = let s = (goal.at.returns c).Start in rw (described-field _ s.args.bytes.now (c.if-not-described.false)) (omega arith, omega (arith, s.requires))
