-- `column_costs::costs_read_columns` meets its contract: the columns' own answer, variant by variant.
use mathlib.Core.Path.{sym, ap, ◌∙◌}
use Rattle.column_costs.specs.Handed.{handing, handed_number, handed_filling}
use Rattle.column_costs.proofs.costs_read_columns.Goals as goal

pub returns-in-Ok : goal.returns-in-Ok
unfolding handed_filling
returns-in-Ok c =
    let m = c.read_columns-filled in
    ap (λ answer. handing (handed_number answer) m.new.values) (sym c.in-Ok.is) ∙ ap handed_filling m.ensures

pub returns-in-Err : goal.returns-in-Err
unfolding handed_filling
returns-in-Err c =
    let m = c.read_columns-filled in
    rw c.number.ensures (ap (λ answer. handing (handed_number answer) m.new.values) (sym c.in-Err.is) ∙ ap handed_filling m.ensures)
