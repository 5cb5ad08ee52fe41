-- `channels::offset_of` meets its contract: the offsets of the two formats, by cases.
use Rattle.channels.specs.Stored.{offset}
use Rattle.channels.proofs.offset_of.Goals as goal

pub returns-in-Full : goal.returns-in-Full
unfolding offset
returns-in-Full c = rw (c.if-signed.true, c.in-Full.is)

pub returns-in-Compact : goal.returns-in-Compact
unfolding offset
returns-in-Compact c = rw (c.if-signed.true, c.in-Compact.is)

pub returns-else-signed : goal.returns-else-signed
unfolding offset
returns-else-signed c = rw c.if-signed.false
