-- `description_judging::largest` meets its contract: the largest numbers of the two formats, by cases.
use Rattle.description_judging.proofs.largest.Goals as goal

pub returns-in-Full : goal.returns-in-Full
returns-in-Full c = rw c.in-Full.is

pub returns-in-Compact : goal.returns-in-Compact
returns-in-Compact c = rw c.in-Compact.is
