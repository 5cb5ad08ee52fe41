-- `bodies::ruling` meets its contract: the template's own refusal decides, and then whether it describes channels.
use mathlib.Core.Path.{◌≡◌}
use Rattle.std.specs.Prelude.{Err}
use borrow.Author.Rules.{rules}
use Rattle.refusals.specs.Stages.{require, or_else}
use Rattle.bodies.specs.Reading.{ruling}
use Rattle.bodies.proofs.ruling.Goals as goal

pub returns-in_err-verdict : goal.returns-in_err-verdict
unfolding ruling or_else
returns-in_err-verdict c =
    let gone : c.from_residual.result ≡ Err c.in_err-verdict.field-0.0 = search rules in
    rw (gone, c.in_err-verdict.was)

pub returns-then-not-described : goal.returns-then-not-described
unfolding ruling or_else require
returns-then-not-described c = rw (c.in_ok-verdict.was, c.if-not-described.true)

pub returns : goal.returns
unfolding ruling or_else require
returns c = rw (c.in_ok-verdict.was, c.if-not-described.false)
