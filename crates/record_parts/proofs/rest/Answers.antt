-- `record_parts::rest` meets its contract: what follows the layout's end.
use mathlib.Core.Path.{sym, ◌∙◌}
use native.Mathlib.Omega.{arith}
use lib.ListN.{length}
use Rattle.record_layouts.specs.LayoutLaws.{failed-read}
use Rattle.record_parts.proofs.Lying.{nowhere-lies, ends-within, rest-lies}
use borrow.Author.Rules.{rules}
use Rattle.record_parts.proofs.rest.Goals as goal

pub returns-in_default : goal.returns-in_default
returns-in_default c =
    let z = nowhere-lies (length c.args.bytes.now) c.in_default.field-0 in
    rw (failed-read _ (sym c.layout_at.ensures ∙ c.in_default.is)) (rw (z.2, z.3) (search rules))

pub slice_bounds-result-count-2 : goal.slice_bounds-result-count-2
slice_bounds-result-count-2 c = omega (arith, (ends-within _ (sym c.layout_at.ensures ∙ c.in-Ok.is)).1)

pub slice_bounds-result-start-2 : goal.slice_bounds-result-start-2
slice_bounds-result-start-2 c = omega (arith, (ends-within _ (sym c.layout_at.ensures ∙ c.in-Ok.is)).1)

pub returns : goal.returns
returns c =
    let z = rest-lies _ (sym c.layout_at.ensures ∙ c.in-Ok.is) in
    rw (z.0, z.1) (search rules)
