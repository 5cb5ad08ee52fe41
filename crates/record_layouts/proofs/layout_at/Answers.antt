-- `record_layouts::layout_at` meets its contract: what lies behind the front.
use mathlib.Core.Path.{ap, ◌∙◌}
use Rattle.formats.specs.Told.{then_told}
use Rattle.record_layouts.specs.Layout.{layout_behind, layout_at}
use Rattle.record_layouts.proofs.layout_at.Goals as goal

pub returns : goal.returns
unfolding layout_at
returns c = c.layout_behind.ensures ∙ ap (λ h. then_told h (layout_behind c.args.bytes.now)) c.front_at-front.ensures
