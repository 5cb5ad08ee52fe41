-- `channels::is_same` meets its contract: what the derived equality answers is the definition's, case by case.
use Rattle.std.specs.Prelude.{◌≡◌, refl}
use Rattle.std.proofs.Common.{◌∙◌}
use denote.Enum.Bare.{sameb}
use Rattle.channels.specs.contracts.Format.{the_type}
use Rattle.channels.specs.declared.Format.{Format}
use Rattle.channels.specs.declared.Format.TheVariants.{Full, Compact}
use Rattle.channels.specs.Channel.{is_same}
use Rattle.channels.proofs.is_same.Goals as goal

each : (format other : Format) → sameb the_type format other ≡ is_same format other
unfolding is_same
each Full Full = refl
each Full Compact = refl
each Compact Full = refl
each Compact Compact = refl

pub returns : goal.returns
returns c = c.eq.ensures ∙ each c.args.format c.args.other
