-- `templates::put_limited` meets its contract: the head and the number are laid one behind the other.
use mathlib.Core.Path.{◌≡◌, sym, ◌∙◌}
use native.Mathlib.Omega.{arith}
use lib.ListN.{length}
use Rattle.formats.specs.Laid.{Room, laid_none}
use Rattle.templates.specs.Template.{field, shortest, encode_limited}
use Rattle.template_writing.proofs.Laying.{length-shortest, head-room, content-room, field-laid, limited-none, limited-field}
use Rattle.template_writing.proofs.put_limited.Goals as goal
use Rattle.template_writing.proofs.put_limited.Goals.{After-fewest, After-put_head-start, After-put_shortest, Start}

-- the field
module _ (c : After-fewest) where
  abbrev start : Start
  start = (goal.at.After-fewest c).Start

  whole : encode_limited start.args.limited start.args.maximum ≡ field 0x82 (shortest start.args.maximum)
  whole = limited-field start.args.limited start.args.maximum (c.if-not-limited.false)

  size : c.fewest.result ≡ length (shortest start.args.maximum)
  size = c.fewest.ensures.0 ∙ sym (length-shortest start.args.maximum)

  room : Room start.args.out.now start.args.at (field 0x82 (shortest start.args.maximum))
  room = rw whole at start.requires

pub returns-then-not-limited : goal.returns-then-not-limited
returns-then-not-limited c =
    let a = c.args in
    rw (limited-none a.limited a.maximum (c.if-not-limited.true)) (laid_none _ _)

pub put_head-start-requires : goal.put_head-start-requires
put_head-start-requires c = (omega (arith, c.fewest.ensures.1), head-room 0x82 (shortest (start c).args.maximum) (size c) (room c))

pub put_shortest-requires : goal.put_shortest-requires
put_shortest-requires c =
    let h = (goal.at.put_shortest-requires c).After-put_head-start in
    let f = (goal.at.After-put_head-start h).After-fewest in
    content-room 0x82 (shortest (start f).args.maximum) (size f) h.put_head-start.ensures (room f)

pub returns : goal.returns
returns c =
    let p = (goal.at.returns c).After-put_shortest in
    let f = (goal.at.After-put_shortest p).After-fewest in
    rw (whole f) (field-laid 0x82 (shortest (start f).args.maximum) (size f) p.put_head-start.ensures p.put_shortest.ensures)
