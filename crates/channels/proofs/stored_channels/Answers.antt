-- `channels::stored_channels` meets its contract: each call of its closure says whether the channel at that place is stored.
use Rattle.std.proofs.Common.{rules}
use Rattle.channels.specs.Descriptors.{is_stored}
use Rattle.channels.proofs.Flagging.{flagged}
use Rattle.channels.proofs.stored_channels.Goals as goal

pub returns : goal.returns
returns c = flagged _ _ is_stored c.args.d.channels (λ i r q h k. (search rules, search rules)) _ 16 (search rules) c.from_fn.ensures.items
