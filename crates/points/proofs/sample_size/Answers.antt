-- `points::sample_size` meets its contract: S has one byte, another channel as many as the format says.
use native.Mathlib.Omega.{arith}
use borrow.Author.Tests.{eq-eqb, ne_eqb}
use Rattle.channels.specs.Channel.{S}
use Rattle.points.proofs.sample_size.Goals as goal

pub returns-then-channel-eq-S : goal.returns-then-channel-eq-S
returns-then-channel-eq-S c = rw (eq-eqb _ S c.if-channel-eq-S.true) (omega arith, omega arith)

pub returns-in-Full : goal.returns-in-Full
returns-in-Full c = rw (c.in-Full.is, ne_eqb _ S c.if-channel-eq-S.false) (omega arith, omega arith)

pub returns-in-Compact : goal.returns-in-Compact
returns-in-Compact c = rw (c.in-Compact.is, ne_eqb _ S c.if-channel-eq-S.false) (omega arith, omega arith)
