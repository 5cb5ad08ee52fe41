-- `templates::put_described` meets its contract: the head and the description's bytes are laid one behind the other.
use mathlib.Core.Path.{◌≡◌, refl}
use native.Mathlib.Omega.{arith}
use Rattle.formats.specs.Laid.{Room, laid_none, within-laid}
use Rattle.templates.specs.Template.{field}
use Rattle.template_writing.specs.Writing.{described_bytes}
use Rattle.template_writing.proofs.Laying.{head-room, content-room, field-laid, described-none, described-field}
use Rattle.template_writing.proofs.put_described.Goals as goal
use Rattle.template_writing.proofs.put_described.Goals.{After-put, Else-not-described, Start}

pub returns-then-not-described : goal.returns-then-not-described
returns-then-not-described c =
    let a = c.args in
    rw (described-none a.described a.bytes.now (c.if-not-described.true)) (laid_none _ _)

-- the field
module _ (c : Else-not-described) where
  abbrev start : Start
  start = (goal.at.Else-not-described c).Start

  whole : described_bytes start.args.described start.args.bytes.now ≡ field 0x81 start.args.bytes.now
  whole = described-field start.args.described start.args.bytes.now (c.if-not-described.false)

  room : Room start.args.out.now start.args.at (field 0x81 start.args.bytes.now)
  room = rw whole at start.requires.1

pub put_head-start-requires : goal.put_head-start-requires
put_head-start-requires c = let f = (goal.at.put_head-start-requires c).Else-not-described in (omega (arith, (start f).requires.0), head-room 0x81 (start f).args.bytes.now refl (room f))

pub returns : goal.returns
returns c =
    let p = (goal.at.returns c).After-put in
    let f = (goal.at.After-put p).Else-not-described in
    let l = within-laid _ (content-room 0x81 (start f).args.bytes.now refl p.put_head-start.ensures (room f)) p.put.ensures in
    rw (whole f) (field-laid 0x81 (start f).args.bytes.now refl p.put_head-start.ensures l)
