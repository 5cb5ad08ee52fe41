-- `channels::limit_of` meets its contract: the limits of the two formats, by cases.
use Rattle.channels.proofs.limit_of.Goals as goal

pub returns-in-Full : goal.returns-in-Full
returns-in-Full c = rw c.in-Full.is

pub returns-in-Compact : goal.returns-in-Compact
returns-in-Compact c = rw c.in-Compact.is
