-- `costs::costs_write` meets its contract: what `record_writing` answers, and the bytes as it leaves them.
use mathlib.Core.Path.{sym, ap, ◌∙◌}
use Rattle.record_writing.specs.Write.{write_of}
use Rattle.channels.specs.declared.Format.TheVariants.{Full}
use Rattle.costs.specs.Handed.{handed_record}
use Rattle.costs.proofs.Writings.{handed-over}
use Rattle.costs.proofs.costs_write.Goals as goal

pub returns-in-Ok : goal.returns-in-Ok
returns-in-Ok c =
    let a = c.args in
    handed-over handed_record (λ d. write_of d a.count a.values.now a.wanted a.extended.now a.out.now) Full a.header.now (sym c.read.ensures ∙ c.in-Ok.is) c.written.ensures c.write.ensures

pub returns-in-Err : goal.returns-in-Err
returns-in-Err c =
    let a = c.args in
    handed-over handed_record (λ d. write_of d a.count a.values.now a.wanted a.extended.now a.out.now) Full a.header.now (sym c.read.ensures ∙ c.in-Err.is) c.written-in-Err.ensures (c.write-in-Err.ensures ∙ ap (λ d. write_of d a.count a.values.now a.wanted a.extended.now a.out.now) c.nothing.ensures)
