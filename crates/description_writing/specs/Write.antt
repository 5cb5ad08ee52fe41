-- Writing a channel description: what becomes of the bytes that a writer is lent.
use Rattle.std.specs.Prelude.{cond, List, ℕ, ◌+◌, leb, length, Result, Ok, Err, ⊤}
use Rattle.formats.specs.Put.{puts}
use Rattle.formats.specs.Lent.{Writing, writing}
use Rattle.refusals.specs.declared.Refusal.TheVariants.{Room}
use Rattle.channels.specs.Channel.{width_of}
use Rattle.channels.specs.declared.Description.{Description}
use Rattle.channels.specs.declared.Format.{Format}
use Rattle.descriptions.specs.Description.{encode_description}
use Rattle.description_judging.specs.Judging.{judgement_of}
use Rattle.refusals.specs.declared.Refusal.{Refusal}

-- a string is put at a place where there is room for it, and its end is answered; else the bytes stay as they were
unfoldable pub put_room : (out : List ℕ) (start : ℕ) (b : List ℕ) → Writing (Result ℕ Refusal)
put_room out start b = cond (leb (start + length b) (length out)) (writing (Ok (start + length b)) (puts out start b)) (writing (Err Room) out)

-- a refusal comes before the room: the bytes stay as they were
unfoldable pub put_judged : Result ⊤ Refusal → (out : List ℕ) (start : ℕ) (b : List ℕ) → Writing (Result ℕ Refusal)
put_judged (Ok _) out start b = put_room out start b
put_judged (Err refusal) out start b = writing (Err refusal) out

-- what writing a description does
unfoldable pub put_if : Format → Description → (out : List ℕ) (start : ℕ) → Writing (Result ℕ Refusal)
put_if format d out start = put_judged (judgement_of format d) out start (encode_description (width_of format) d)
