-- `description_writing::has_room` meets its contract: no description is longer than the longest.
use mathlib.Core.Path.{sym, ap, ◌∙◌}
use native.Mathlib.Omega.{arith}
use borrow.Author.Tests.{le-leb}
use lib.Dec.{leb}
use lib.ListN.{length}
use Rattle.channels.specs.Channel.{width_of}
use Rattle.descriptions.specs.Description.{encode_description}
use Rattle.descriptions.specs.SizeLaws.{description-size}
use Rattle.description_writing.proofs.has_room.Goals as goal
use Rattle.description_writing.proofs.has_room.Goals.{After-longest}

pub returns-then-longest-room : goal.returns-then-longest-room
returns-then-longest-room c =
    let m = (goal.at.returns-then-longest-room c).After-longest in
    let a = m.args in
    let w = width_of a.format in
    le-leb _ _ c.if-longest-room.true
    ∙ sym (le-leb (length (encode_description w a.description)) a.room (omega (arith, m.longest.ensures, description-size w a.description)))

pub returns-else-longest-room : goal.returns-else-longest-room
returns-else-longest-room c = ap (λ n. leb n c.args.room) c.size.ensures
