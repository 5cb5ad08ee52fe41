-- `channels::included_channels` meets its contract: each call of its closure says the flag of the channel at that place.
use Rattle.std.proofs.Common.{rules}
use Rattle.channels.proofs.Flagging.{flagged}
use Rattle.channels.proofs.included_channels.Goals as goal

pub returns : goal.returns
returns c = flagged _ _ (λ c. c.included) c.args.d.channels (λ i r q h k. (search rules, search rules)) _ 16 (search rules) c.from_fn.ensures.items
