-- What writing a template answers, and what becomes of the bytes that it was lent.
use Rattle.std.specs.Prelude.{Bool, true, false, cond, not, ◌&&◌, List, [], ◌∷◌, ◌++◌, ℕ, leb, ltb, length, drop, Result, Ok, Err, ⊤}
use Rattle.formats.specs.Lent.{Writing, writing}
use Rattle.refusals.specs.Stages.{require, stages}
use Rattle.refusals.specs.declared.Quantity.TheVariants as quantity
use Rattle.refusals.specs.declared.Refusal.TheVariants.{OutOfRange, Room}
use Rattle.channels.specs.declared.Description.{Description}
use Rattle.channels.specs.declared.Format.TheVariants.{Compact}
use Rattle.description_judging.specs.Judging as judging
use Rattle.templates.specs.Template.{field, encode_limited, encode}
use Rattle.templates.specs.Reading.{saying}
use Rattle.refusals.specs.declared.Refusal.{Refusal}

-- the description's own stages, where 81 is wanted
unfoldable pub description_stage : (described : Bool) → Description → Result ⊤ Refusal
description_stage true d = judging.judgement_of Compact d
description_stage false d = Ok tt

-- a maximum that three bytes don't hold, where 82 is wanted
unfoldable pub exceeds : (limited : Bool) (maximum : ℕ) → Bool
exceeds limited n = limited && ltb 16777215 n

abbrev pub maximum_stage : (limited : Bool) (maximum : ℕ) → Result ⊤ Refusal
maximum_stage limited n = require (not (exceeds limited n)) (OutOfRange quantity.Maximum)

-- bytes that there is room for come first, and the others are untouched
unfoldable pub in_room : (b out : List ℕ) → Writing (Result ℕ Refusal)
in_room b out = cond (leb (length b) (length out)) (writing (Ok (length b)) (b ++ drop (length b) out)) (writing (Err Room) out)

-- a refusal leaves the bytes as they were
unfoldable pub put_where : Result ⊤ Refusal → (b out : List ℕ) → Writing (Result ℕ Refusal)
put_where (Ok _) b out = in_room b out
put_where (Err refusal) b out = writing (Err refusal) out

-- the description, the maximum, and then the room
unfoldable pub judgement_of : (described : Bool) (d : Description) (limited : Bool) (maximum : ℕ) → Result ⊤ Refusal
judgement_of described d limited maximum = stages (description_stage described d ∷ maximum_stage limited maximum ∷ [])

unfoldable pub write_of : (described : Bool) (d : Description) (limited : Bool) (maximum : ℕ) (out : List ℕ) → Writing (Result ℕ Refusal)
write_of described d limited maximum out = put_where (judgement_of described d limited maximum) (encode (saying described d limited maximum)) out

-- ---- The parts, from the bytes of the description

-- 81, where it is wanted
unfoldable pub described_bytes : (described : Bool) (bytes : List ℕ) → List ℕ
described_bytes true bytes = field 0x81 bytes
described_bytes false bytes = []

-- the whole template
unfoldable pub template_bytes : (described : Bool) (bytes : List ℕ) (limited : Bool) (maximum : ℕ) → List ℕ
template_bytes described bytes limited maximum = field 0xB1 (described_bytes described bytes ++ encode_limited limited maximum)

-- the maximum, and then the room
unfoldable pub write_fields : (described : Bool) (bytes : List ℕ) (limited : Bool) (maximum : ℕ) (out : List ℕ) → Writing (Result ℕ Refusal)
write_fields described bytes limited maximum out = put_where (maximum_stage limited maximum) (template_bytes described bytes limited maximum) out
