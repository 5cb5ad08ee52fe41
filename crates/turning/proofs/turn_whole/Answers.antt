-- `turning::turn_whole` meets its contract: the template is put aside, which judges its numbers, and its bytes are handed on.
use Rattle.std.specs.Prelude.{Err}
use mathlib.Core.Path.{◌≡◌, sym, ap, ap₂, ◌∙◌}
use lib.ListN.{replicate}
use Rattle.formats.specs.Lent.{writing}
use Rattle.templates.specs.Template.{encode}
use Rattle.templates.specs.Reading.{saying}
use mathlib.Core.Bool.{true, false}
use Rattle.template_writing.specs.Writing.{write_of}
use Rattle.turning.specs.Turning.{compacted, body_bytes, turning, put_both, turned}
use Rattle.turning.proofs.Aside.{by-body, by-numbers, aside-done, aside-refused}
use Rattle.turning.proofs.Whole.{turn-refused}
use Rattle.turning.proofs.turn_whole.Goals as goal
use Rattle.turning.proofs.turn_whole.Goals.{After-write, Start}

-- the template, put aside
module _ (m : After-write) where
  abbrev start : Start
  start = (goal.at.After-write m).Start

  aside : writing m.write.result m.write.new.out ≡ write_of true (compacted start.args.description) false 0 (replicate 118 0)
  aside = m.write.ensures ∙ ap (λ d. write_of true d false 0 (replicate 118 0)) m.compact-compact.ensures

pub slice_bounds-described-end : goal.slice_bounds-described-end
slice_bounds-described-end c = let m = (goal.at.slice_bounds-described-end c).After-write in (aside-done _ _ _ (aside m) c.in-Ok.is).1

pub returns-in-Ok : goal.returns-in-Ok
unfolding turned
returns-in-Ok c r q d =
    let m = (goal.at.returns-in-Ok c).After-write in
    let a = (start m).args in
    let f = aside-done _ _ _ (aside m) c.in-Ok.is in
    c.turn_described.ensures r q
    ∙ ap₂ (λ b j. put_both b (body_bytes r) a.template.now a.body.now j) (f.2 ∙ ap (λ x. encode (saying true (compacted x) false 0)) d) (sym (by-body r (rw d at f.0)))

pub returns-in-Err : goal.returns-in-Err
unfolding turned
returns-in-Err c r q d =
    let m = (goal.at.returns-in-Err c).After-write in
    let a = (start m).args in
    ap (λ refusal. turning (Err refusal) a.template.now a.body.now) c.in_compact.ensures
    ∙ turn-refused _ _ a.template.now a.body.now (by-numbers r (rw d at (aside-refused _ _ _ (aside m) c.in-Err.is)))
