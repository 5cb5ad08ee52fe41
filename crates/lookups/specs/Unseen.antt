-- Which bytes a lookup does not look at (request L7): what it finds depends on no byte but those of the front and of the point that it asks for.
use Rattle.std.specs.Prelude.{◌≡◌, List, ℕ, ◌<◌}
use Rattle.formats.specs.Reader.{ok, read_at}
use Rattle.formats.specs.Sight.{Same}
use Rattle.points.specs.Points.{point}
use Rattle.channels.specs.Descriptors.{stored}
use Rattle.record_fronts.specs.Front.{Heading, front}
use Rattle.lookups.specs.Lookup.{start_of, look_up}

-- another string has the bytes that are looked at: those of the front, and where that counts the point those of the point
pub record Agrees (s t : List ℕ) (index : ℕ) : Type 0 where
  pub ahead : Same front s t 0
  pub itself : (h : Heading) (points : ℕ) → read_at front s 0 ≡ ok h points → index < h.count
      → Same (point 2 (stored h.description)) s t (start_of (stored h.description) points index)

-- ---- The claim

abbrev pub NoOtherByte : Type 0
NoOtherByte = (s t : List ℕ) (index : ℕ) → Agrees s t index → look_up s index ≡ look_up t index
