-- `description_writing::put_channel` meets its contract: a channel that is included has its descriptor, any other nothing.
use mathlib.Core.Path.{◌≡◌}
use Prim.Native.Nat.{ℕ}
use borrow.Author.Tests.{not-true, not-false}
use Rattle.formats.specs.Laid.{laid_none}
use Rattle.channels.specs.Channel.{width_of}
use Rattle.descriptions.specs.Description.{encode_descriptor, encode_channel}
use Rattle.description_writing.proofs.Laying.{channel-none, channel-included}
use Rattle.description_writing.proofs.put_channel.Goals as goal
use Rattle.description_writing.proofs.put_channel.Goals.{After-put_descriptor, Else-not-d}

pub returns-then-not-d : goal.returns-then-not-d
returns-then-not-d c channel e =
    let a = c.args in
    rw (channel-none (width_of a.format) channel a.d (not-true a.d.included c.if-not-d.true)) (laid_none _ _)

included : (c : Else-not-d) (channel : ℕ)
    → encode_channel (width_of c.args.format) channel c.args.d
    ≡ encode_descriptor (width_of c.args.format) channel c.args.d
included c channel = channel-included _ _ _ (not-false c.args.d.included c.if-not-d.false)

pub put_descriptor-requires : goal.put_descriptor-requires
put_descriptor-requires c =
    let e = (goal.at.put_descriptor-requires c).Else-not-d in
    let p = e.requires in
    (p.0, p.1, p.2, rw (included e p.0) at p.3)

pub returns : goal.returns
returns c channel e =
    let p = (goal.at.returns c).After-put_descriptor in
    rw (included (goal.at.After-put_descriptor p).Else-not-d channel) (p.put_descriptor.ensures channel e)
