-- `values::sample_format` meets its contract: S has one byte, and any other channel as many as the format says.
use mathlib.Core.Path.{sym, ap}
use mathlib.Core.Bool.{cond}
use borrow.Author.Tests.{eq-eqb, ne_eqb}
use Rattle.channels.specs.Channel.{S, width_of}
use Rattle.values.proofs.sample_format.Goals as goal

pub returns-then-channel-eq-S : goal.returns-then-channel-eq-S
returns-then-channel-eq-S c = sym (ap (λ t. cond t 1 (width_of c.args.format)) (eq-eqb c.args.channel S c.if-channel-eq-S.true))

pub returns : goal.returns
returns c = sym (ap (λ t. cond t 1 (width_of c.args.format)) (ne_eqb c.args.channel S c.if-channel-eq-S.false))
