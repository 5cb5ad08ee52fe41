-- `description_writing::channel_size` meets its contract: the descriptor byte, and what each attribute has.
use mathlib.Core.Path.{sym, ap, ◌∙◌}
use borrow.Author.Tests.{not-true, not-false}
use lib.ListN.{length}
use Rattle.channels.specs.Channel.{width_of}
use Rattle.description_writing.proofs.Laying.{channel-none, channel-included, descriptor-length}
use Rattle.description_writing.proofs.channel_size.Goals as goal
use Rattle.description_writing.proofs.channel_size.Goals.{After-attribute_size}

pub returns-then-not-d : goal.returns-then-not-d
returns-then-not-d c = λ channel. sym (ap length (channel-none _ channel c.args.d (not-true _ c.if-not-d.true)))

pub returns : goal.returns
returns c =
    let e = (goal.at.returns c).After-attribute_size in
    let a = e.args in
    rw (
      e.attribute_size.ensures.0,
      c.attribute_size-2.ensures.0,
      c.attribute_size-3.ensures.0,
      c.attribute_size-4.ensures.0,
      c.attribute_size-5.ensures.0,
    )
    (λ channel. sym (ap length (channel-included (width_of a.format) channel a.d (not-false _ e.if-not-d.false)) ∙ descriptor-length (width_of a.format) channel a.d))
