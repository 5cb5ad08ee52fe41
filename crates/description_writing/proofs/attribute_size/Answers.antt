-- `description_writing::attribute_size` meets its contract: a number's width where there is one.
use Rattle.description_writing.proofs.attribute_size.Goals as goal

pub returns-then-attribute : goal.returns-then-attribute
returns-then-attribute c = rw c.if-attribute.true c.width.ensures
