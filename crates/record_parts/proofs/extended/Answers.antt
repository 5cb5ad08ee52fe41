-- `record_parts::extended` meets its contract: the extended data are the last bytes of the layout, behind their length.
use mathlib.Core.Path.{◌≡◌, sym, ◌∙◌}
use mathlib.Core.List.{List, []}
use Prim.Native.Nat.{ℕ, ◌+◌, ◌-◌, ◌≤◌}
use native.Mathlib.Nat.{sub_self}
use native.Mathlib.Omega.{arith}
use lib.ListN.{length, take}
use Rattle.record_layouts.specs.LayoutLaws.{failed-read}
use Rattle.record_parts.proofs.Lying.{nowhere-lies, ends-within, extended-lies, extended-empty}
use borrow.Author.Rules.{rules}
use Rattle.record_parts.proofs.extended.Goals as goal
use Rattle.record_parts.proofs.extended.Goals.{Then-layout}

pub returns-in_default : goal.returns-in_default
returns-in_default c =
    let z = nowhere-lies 0 c.in_default.field-0 in
    rw (failed-read _ (sym c.layout_at.ensures ∙ c.in_default.is)) (rw (z.0, z.1) (search rules))

-- the extended data lie behind their length
lie : (c : Then-layout) → (c.in-Ok.layout.extension + 2 ≤ c.in-Ok.layout.end) × (c.in-Ok.layout.end ≤ length c.args.bytes.now)
lie c = ((extended-lies _ (sym c.layout_at.ensures ∙ c.in-Ok.is) c.if-layout.true).2, (ends-within _ (sym c.layout_at.ensures ∙ c.in-Ok.is)).1)

pub overflow_add-start : goal.overflow_add-start
overflow_add-start c = let z = lie (goal.at.overflow_add-start c).Then-layout in omega arith

pub slice_bounds-result-count-then-layout : goal.slice_bounds-result-count-then-layout
slice_bounds-result-count-then-layout c = omega (arith, (lie (goal.at.slice_bounds-result-count-then-layout c).Then-layout).0)

pub slice_bounds-result-start-then-layout : goal.slice_bounds-result-start-then-layout
slice_bounds-result-start-then-layout c = omega (arith, (lie (goal.at.slice_bounds-result-start-then-layout c).Then-layout).0)

pub slice_bounds-result-end-then-layout : goal.slice_bounds-result-end-then-layout
slice_bounds-result-end-then-layout c = (lie (goal.at.slice_bounds-result-end-then-layout c).Then-layout).1

pub slice_bounds-result-end-else-layout : goal.slice_bounds-result-end-else-layout
slice_bounds-result-end-else-layout c = omega (arith, (ends-within _ (sym c.layout_at.ensures ∙ c.in-Ok.is)).1)

pub returns-then-layout : goal.returns-then-layout
returns-then-layout c =
    let z = extended-lies _ (sym c.layout_at.ensures ∙ c.in-Ok.is) c.if-layout.true in
    rw (z.0, z.1) (search rules)

-- from a place to itself there is nothing
none-taken : (n : ℕ) (l : List ℕ) → take (n - n) l ≡ []
none-taken n l = simp sub_self

pub returns-else-layout : goal.returns-else-layout
returns-else-layout c =
    let z = extended-empty _ (sym c.layout_at.ensures ∙ c.in-Ok.is) c.if-layout.false in
    rw (z.0, z.1) (search (rules, none-taken))
