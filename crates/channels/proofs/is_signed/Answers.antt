-- `channels::is_signed` meets its contract: past the sixteenth there is no sign, as `get_or` has it; else the highest of the bits is the channel's when they are moved up by it.
use mathlib.Core.Path.{sym, ap, ◌∙◌}
use mathlib.Core.Bool.{false}
use native.Mathlib.Omega.{arith}
use lib.ListN.{get_or-eq_default}
use Rattle.channels.specs.Bits.{moved}
use Rattle.channels.specs.BitLaws.{sign-first}
use Rattle.channels.specs.Channel.{signs, signed_of}
use Rattle.channels.proofs.is_signed.Goals as goal

pub returns-then-channel-ge16 : goal.returns-then-channel-ge16
unfolding signed_of
returns-then-channel-ge16 c = sym (get_or-eq_default signs false {n = c.args.channel} (omega (arith, c.if-channel-ge16.true)))

pub returns : goal.returns
unfolding moved
returns c =
    let i = c.args.channel in
    c.leads.ensures ∙ sign-first (record { same = ap (moved i) c.signs.ensures }) c.if-channel-ge16.false
