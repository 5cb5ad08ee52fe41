-- `templates::put_template` meets its contract: the head, the field 81 and the field 82 are laid one behind the other.
use mathlib.Core.List.{List, ◌++◌}
use Prim.Native.Nat.{ℕ}
use Rattle.formats.specs.Laid.{Room, laid_more, room-first, room-rest}
use Rattle.templates.specs.Template.{field, encode_limited}
use Rattle.template_writing.specs.Writing.{described_bytes, template_bytes}
use Rattle.template_writing.proofs.Laying.{head-room, content-room, field-laid}
use Rattle.template_writing.proofs.put_template.Goals as goal
use Rattle.template_writing.proofs.put_template.Goals.{After-put_described-at, After-put_head-inside, After-put_limited, Start}

abbrev content : Start → List ℕ
content s = described_bytes s.args.described s.args.bytes.now ++ encode_limited s.args.limited s.args.maximum

room : (s : Start) → Room s.args.out.now 0 (field 0xB1 (content s))
unfolding template_bytes
room s = s.requires.2

-- behind the head there is room for the fields
module _ (h : After-put_head-inside) where
  abbrev start : Start
  start = (goal.at.After-put_head-inside h).Start

  inside : Room h.put_head-inside.new.out h.put_head-inside.result (content start)
  inside = content-room 0xB1 (content start) start.requires.3 h.put_head-inside.ensures (room start)

pub put_head-inside-requires : goal.put_head-inside-requires
put_head-inside-requires c = let s = (goal.at.put_head-inside-requires c).Start in (s.requires.0, head-room 0xB1 (content s) s.requires.3 (room s))

pub put_described-at-requires : goal.put_described-at-requires
put_described-at-requires c = let h = (goal.at.put_described-at-requires c).After-put_head-inside in ((start h).requires.1, room-first (described_bytes _ _) (encode_limited _ _) (inside h))

pub put_limited-requires : goal.put_limited-requires
put_limited-requires c = let d = (goal.at.put_limited-requires c).After-put_described-at in room-rest d.put_described-at.ensures (inside (goal.at.After-put_described-at d).After-put_head-inside)

pub returns : goal.returns
unfolding template_bytes
returns c =
    let l = (goal.at.returns c).After-put_limited in
    let h = (goal.at.After-put_limited l).After-put_head-inside in
    field-laid 0xB1 (content (start h)) (start h).requires.3 h.put_head-inside.ensures (laid_more l.put_described-at.ensures l.put_limited.ensures)
