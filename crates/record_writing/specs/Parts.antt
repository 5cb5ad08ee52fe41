-- What private functions put and answer, part by part. `WriteLaws` says that the parts are the record's encoding (`in_parts`).
use Rattle.std.specs.Prelude.{Bool, cond, ℕ, ℤ, Result}
use mathlib.Core.List.{List, ◌∷◌, ◌++◌, flat_map}
use Rattle.std.proofs.Math.Option.{none, some}
use Rattle.formats.specs.Number.{digits}
use Rattle.formats.specs.Lent.{Writing}
use Rattle.points.specs.Points.{encode_point}
use Rattle.orders.specs.Orders.{size, points_of}
use Rattle.orders.specs.declared.Order.{Order}
use Rattle.records.specs.Record.{identifier_bytes, version_bytes, encode_extended}
use Rattle.record_writing.specs.Write.{numbers_judged, put_where}
use Rattle.refusals.specs.declared.Refusal.{Refusal}

-- the header's reserved byte (7.3.5), the opening byte (7.4.1) and the count of points (7.4.2)
unfoldable pub opening_bytes : (wanted : Bool) (count : ℕ) → List ℕ
opening_bytes wanted count = 0x00 ∷ cond wanted 0x80 0x00 ∷ digits 3 count

-- all that stands before the points, by the bytes of the description
unfoldable pub front_bytes : (described : List ℕ) (wanted : Bool) (count : ℕ) → List ℕ
front_bytes described wanted count = identifier_bytes ++ version_bytes ++ described ++ opening_bytes wanted count

-- the whole record
unfoldable pub record_bytes : Order → (described : List ℕ) (stored : List Bool) (count : ℕ) (numbers : List ℤ) (wanted : Bool) (extended : List ℕ) → List ℕ
record_bytes order described stored count numbers wanted extended =
    front_bytes described wanted count
    ++ (flat_map (encode_point 2 stored) (points_of order count (size stored) numbers) ++ encode_extended (cond wanted (some extended) none))

-- what becomes of a record whose description passed: of the description its bytes are known, and which channels are stored
unfoldable pub write_described : Order → (described : List ℕ) (stored : List Bool) (count : ℕ) (numbers : List ℤ) (wanted : Bool) (extended : List ℕ) (out : List ℕ) → Writing (Result ℕ Refusal)
write_described order described stored count numbers wanted extended out =
    put_where (record_bytes order described stored count numbers wanted extended) out (numbers_judged order stored count numbers wanted extended)
