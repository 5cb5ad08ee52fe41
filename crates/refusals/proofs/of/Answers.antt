-- `refusals::of` meets its contract: by the failure.
use mathlib.Core.Path.{sym, ap, ◌∙◌}
use Rattle.refusals.specs.Table.{refusal_of}
use Rattle.refusals.proofs.of.Goals as goal

pub returns-in-Short : goal.returns-in-Short
unfolding refusal_of
returns-in-Short c = rw c.in-Short.is

pub returns-in-Bad : goal.returns-in-Bad
unfolding refusal_of
returns-in-Bad c = c.named.ensures ∙ sym (ap refusal_of c.in-Bad.is)
