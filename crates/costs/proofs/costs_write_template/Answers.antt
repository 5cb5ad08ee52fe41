-- `costs::costs_write_template` meets its contract: what `template_writing` answers, and the bytes as it leaves them.
use mathlib.Core.Path.{sym, ap, ◌∙◌}
use mathlib.Core.Bool.{true}
use Rattle.template_writing.specs.Writing.{write_of}
use Rattle.channels.specs.declared.Format.TheVariants.{Compact}
use Rattle.costs.specs.Handed.{handed_template}
use Rattle.costs.proofs.Writings.{handed-over}
use Rattle.costs.proofs.costs_write_template.Goals as goal

pub returns-in-Ok : goal.returns-in-Ok
returns-in-Ok c =
    let a = c.args in
    handed-over handed_template (λ d. write_of true d a.limited a.maximum a.out.now) Compact a.header.now (sym c.read.ensures ∙ c.in-Ok.is) c.written.ensures c.write.ensures

pub returns-in-Err : goal.returns-in-Err
returns-in-Err c =
    let a = c.args in
    handed-over handed_template (λ d. write_of true d a.limited a.maximum a.out.now) Compact a.header.now (sym c.read.ensures ∙ c.in-Err.is) c.written-in-Err.ensures (c.write-in-Err.ensures ∙ ap (λ d. write_of true d a.limited a.maximum a.out.now) c.nothing.ensures)
