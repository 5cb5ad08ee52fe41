-- `bodies::rule_of` meets its contract: each field is what its function promises of the template.
use Rattle.bodies.proofs.rule_of.Goals as goal

pub returns : goal.returns
returns c = rw (c.ruling.ensures, c.included_channels.ensures, c.stored_channels.ensures)
