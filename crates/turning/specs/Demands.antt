-- What is claimed of turning (request L4), said of what the functions promise: the template reads back as the record's description marked compact,
-- the body as the record's points, and both as the record itself.
use Rattle.std.specs.Prelude.{◌≡◌, true, false, ◌⊎◌, List, [], ◌++◌, ℕ, ◌≤◌, length, take, drop, Ok, Err}
use Rattle.formats.specs.Bytes.{Bytes}
use Rattle.formats.specs.Reader.{ok, run}
use Rattle.formats.specs.Lent.{writing}
use Rattle.refusals.specs.declared.Quantity.{Quantity}
use Rattle.refusals.specs.declared.Refusal.{Refusal}
use Rattle.refusals.specs.declared.Refusal.TheVariants.{NotCompact, Room}
use Rattle.channels.specs.Descriptors.{stored}
use Rattle.channels.specs.declared.Description.{Description}
use Rattle.channels.specs.declared.Format.TheVariants.{Full}
use Rattle.orders.specs.Orders.{size, values_of}
use Rattle.orders.specs.declared.Order.TheVariants.{Point}
use Rattle.records.specs.Record.{Record, full_record}
use Rattle.record_points.specs.Pointing.{places_in}
use Rattle.record_writing.specs.Write as record-writing
use Rattle.templates.specs.Reading.{accepted, template_of}
use Rattle.template_writing.specs.Writing as template-writing
use Rattle.bodies.specs.Reading.{read, judged_by, places_by}
use Rattle.bodies.specs.Writing.{write_by}
use Rattle.bodies.specs.Demands.{said, description_of, flags, points_read}
use Rattle.turning.specs.Turning.{compacted, template_for, turning, turn_of}

-- a whole slice is the record r, and turning it fills an output that held `template` with t and one that held `body` with b:
-- n bytes of the first are the template, m of the second the body
pub record Turns (s : List ℕ) (r : Record) (template body t b : List ℕ) (n m : ℕ) : Type 0 where
  pub bytes : Bytes s
  pub whole : run full_record s ≡ ok r (length s)
  pub turns : turning (Ok (record { template = n; body = m })) t b ≡ turn_of (length s) (run full_record s) template body

-- ---- The claims

-- the template is of 81 alone, with the record's description marked compact; behind it the output is as it was
abbrev pub TemplateReadsBack : Type 0
TemplateReadsBack = (s : List ℕ) (r : Record) (template body t b : List ℕ) (n m : ℕ) → Turns s r template body t b n m
    → (template_of (take n t) ≡ accepted (template_for r)) × (drop n t ≡ drop n template)

-- the body, by that template, has the record's points; behind it the output is as it was
abbrev pub BodyReadsBack : Type 0
BodyReadsBack = (s : List ℕ) (r : Record) (template body t b : List ℕ) (n m : ℕ) → Turns s r template body t b n m
    → (judged_by (template_of (take n t)) (take m b) ≡ record { verdict = (Ok (length r.points)); description = compacted r.description })
    × ((read (said (take n t)) (take m b) ≡ ok r.points m) × (drop m b ≡ drop m body))

-- each of its points has the record's sixteen places
abbrev pub SamePlaces : Type 0
SamePlaces = (s : List ℕ) (r : Record) (template body t b : List ℕ) (n m : ℕ) → Turns s r template body t b n m
    → (index : ℕ) → places_by index (template_of (take n t)) (take m b) ≡ places_in index (run full_record s)

-- turning is the template's writer and then, by that template, the body's
abbrev pub IsBothWriters : Type 0
IsBothWriters = (s : List ℕ) (r : Record) (template body t b : List ℕ) (n m : ℕ) → Turns s r template body t b n m
    → (writing (Ok n) t ≡ template-writing.write_of true (compacted r.description) false 0 template)
    × (writing (Ok m) b ≡ write_by (template_of (take n t)) (length r.points) (values_of Point (size (stored r.description)) r.points) false body)

-- a description with the mark of full records
abbrev pub full : Description → Description
full d = record { channels = d.channels; mark = Full }

-- what template and body read back as is written as the same full record, byte for byte
abbrev pub TurnsBack : Type 0
TurnsBack = (s : List ℕ) (r : Record) (template body t b : List ℕ) (n m : ℕ) → Turns s r template body t b n m
    → (out : List ℕ) → length s ≤ length out
    → let points = points_read (read (said (take n t)) (take m b)) in
    writing (Ok (length s)) (s ++ drop (length s) out)
    ≡ record-writing.write_of (full (description_of (take n t))) (length points) (values_of Point (size (flags (take n t))) points) false [] out

-- behind the slice's own refusals only 21 and 15 are said: 4, 11, 13 and 18 can't come
abbrev pub RefusesOnly : Type 0
RefusesOnly = (s : List ℕ) (r : Record) (template body : List ℕ) (refusal : Refusal) → Bytes s → run full_record s ≡ ok r (length s)
    → turning (Err refusal) template body ≡ turn_of (length s) (run full_record s) template body
    → ((quantity : Quantity) × (refusal ≡ NotCompact quantity)) ⊎ (refusal ≡ Room)
