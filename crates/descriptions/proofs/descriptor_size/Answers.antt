-- `descriptions::descriptor_size` meets its contract: each bit counts as many bytes as its attribute has.
use Rattle.descriptions.proofs.Measuring.{size-full, size-compact}
use Rattle.descriptions.proofs.descriptor_size.Goals as goal

pub returns-in-Full : goal.returns-in-Full
returns-in-Full c = rw c.in-Full.is (size-full _)

pub returns-in-Compact : goal.returns-in-Compact
returns-in-Compact c = rw c.in-Compact.is (size-compact _)
