-- `templates::refused` meets its contract: the refusal as it is, with zeros.
use Rattle.templates.proofs.refused.Goals as goal

pub returns : goal.returns
returns c = rw c.nothing.ensures
