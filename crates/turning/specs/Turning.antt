-- Turning a full record: the template of 81 alone and the body that it is made, what keeps it from being turned, and what becomes of the two outputs.
use Rattle.std.specs.Prelude.{Bool, true, false, cond, ◌&&◌, List, [], ◌∷◌, ℕ, leb, ltb, ℤ, length, Result, Ok, Err, ⊤}
use Rattle.formats.specs.Put.{puts}
use Rattle.formats.specs.Reader.{Answer, ok, short, bad}
use Rattle.formats.specs.declared.Failure.TheVariants.{Short, Bad}
use Rattle.refusals.specs.Stages.{stages, compactly}
use Rattle.refusals.specs.Table.{refusal_of}
use Rattle.refusals.specs.declared.Refusal.TheVariants.{LeftOver, Room}
use Rattle.channels.specs.Descriptors.{stored}
use Rattle.channels.specs.declared.Description.{Description}
use Rattle.channels.specs.declared.Format.TheVariants.{Compact}
use Rattle.description_judging.specs.Judging as described
use Rattle.orders.specs.Orders.{size, values_of}
use Rattle.orders.specs.declared.Order.TheVariants.{Point}
use Rattle.records.specs.Record.{Record, present}
use Rattle.templates.specs.Template.{encode}
use Rattle.templates.specs.Reading.{saying}
use Rattle.templates.specs.declared.Template.{Template}
use Rattle.bodies.specs.Body.{encode_body}
use Rattle.bodies.specs.Writing.{judgement_by}
use Rattle.refusals.specs.declared.Refusal.{Refusal}
use Rattle.turning.specs.declared.Turned.{Turned}

-- ---- What a record is made

-- its description, marked compact: a number goes over unchanged
abbrev pub compacted : Description → Description
compacted d = record { channels = d.channels; mark = Compact }

-- a template of 81 alone
abbrev pub template_for : Record → Template
template_for r = saying true (compacted r.description) false 0

-- and a body of its points, T too as it stands
abbrev pub body_bytes : Record → List ℕ
body_bytes r = encode_body (stored r.description) r.points

-- ---- What keeps it from being turned: the stages of the template's writer and of the body's, with 21 for 12

-- the body's writer, without a limit, is handed the record's count and numbers; extended data that are present are wanted
unfoldable pub body_judgement : (stored : List Bool) (count : ℕ) (points : List (List ℤ)) (extended : Bool) → Result ⊤ Refusal
body_judgement stored count points extended = judgement_by stored false 0 count (values_of Point (size stored) points) extended

abbrev pub judged_body : Record → Result ⊤ Refusal
judged_body r = body_judgement (stored r.description) (length r.points) r.points (present r.extended)

unfoldable pub judgement_of : Record → Result ⊤ Refusal
judgement_of r = stages (compactly (described.judgement_of Compact (compacted r.description)) ∷ judged_body r ∷ [])

-- ---- What becomes of the outputs

-- what code does that was lent two outputs: an answer, and what each holds afterwards
pub record Turning : Type 0 where
  pub answer : Result Turned Refusal
  pub template : List ℕ
  pub body : List ℕ

abbrev pub turning : Result Turned Refusal → (template body : List ℕ) → Turning
turning answer template body = record { answer = answer; template = template; body = body }

-- both are put where both have room: else, and on a refusal, both outputs stay as they were
unfoldable pub put_both : (described points template body : List ℕ) → Result ⊤ Refusal → Turning
put_both described points template body (Ok tt) =
    cond
    (leb (length described) (length template) && leb (length points) (length body))
    (turning (Ok (record { template = length described; body = length points })) (puts template 0 described) (puts body 0 points))
    (turning (Err Room) template body)
put_both described points template body (Err refusal) = turning (Err refusal) template body

unfoldable pub turned : Record → (template body : List ℕ) → Turning
turned r template body = put_both (encode (template_for r)) (body_bytes r) template body (judgement_of r)

-- by what reading a slice of `size` bytes answers: the slice's own refusals come first
unfoldable pub turn_of : (size : ℕ) → Answer Record → (template body : List ℕ) → Turning
turn_of size (ok r n) template body = cond (ltb n size) (turning (Err (LeftOver n)) template body) (turned r template body)
turn_of size short template body = turning (Err (refusal_of Short)) template body
turn_of size (bad k p) template body = turning (Err (refusal_of (Bad k p))) template body
