-- How many bytes a lookup looks at (request L7), by what decides: the header's, four more, and the point's. They are at most 222.
use Rattle.std.specs.Prelude.{◌≡◌, cond, List, ℕ, ◌+◌, ◌-◌, ◌≤◌, ltb, ℤ, length, take}
use Rattle.formats.specs.Bytes.{Bytes}
use Rattle.formats.specs.Reader.{Answer, ok, short, bad, read_at}
use Rattle.channels.specs.declared.Description.{Description}
use Rattle.points.specs.Points.{point, width}
use Rattle.channels.specs.Descriptors.{stored}
use Rattle.records.specs.Record.{header}
use Rattle.record_fronts.specs.Front.{Heading, front}
use Rattle.lookups.specs.Lookup.{start_of, look_up}

-- of a point that begins at a place of `size` bytes: all of it; as many as are there; or up to and with S, where that is refused
unfoldable pub point_count : (width size start : ℕ) → Answer (List ℤ) → ℕ
point_count width size start (ok v n) = width
point_count width size start short = size - start
point_count width size start (bad k p) = p - start + 1

-- of the point that is asked for, where it is counted
unfoldable pub point_count_of : List ℕ → (index points : ℕ) → Heading → ℕ
point_count_of s index points h =
    let flags = stored h.description in
    let start = start_of flags points index in
    cond (ltb index h.count) (point_count (width 2 flags) (length s) start (read_at (point 2 flags) s start)) 0

-- of all: the header, the opening byte and the count, and then the point; as many as are there; or up to and with the byte that is refused
unfoldable pub count_of : List ℕ → (index : ℕ) → Answer Heading → ℕ
count_of s index (ok h points) = length (header h.description) + 4 + point_count_of s index points h
count_of s index short = length s
count_of s index (bad k p) = p + 1

-- ---- The claims

abbrev pub Counts : Type 0
Counts = (s : List ℕ) → Bytes s → (index : ℕ) → (look_up s index).looked ≡ count_of s index (read_at front s 0)

-- 7 is said of the byte behind a header
abbrev pub CountsOpening : Type 0
CountsOpening = (s : List ℕ) → Bytes s → (index p : ℕ) → read_at front s 0 ≡ bad 7 p → (d : Description) × (take p s ≡ header d) × ((look_up s index).looked ≡ length (header d) + 1)

-- 187 bytes of a header, four, and 31 of a point
abbrev pub CountsAtMost : Type 0
CountsAtMost = (s : List ℕ) → Bytes s → (index : ℕ) → (look_up s index).looked ≤ 222

-- and some bytes have so many
abbrev pub CountsSoMany : Type 0
CountsSoMany = (s : List ℕ) × Bytes s × ((look_up s 0).looked ≡ 222)
