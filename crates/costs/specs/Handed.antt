-- What is handed over to C, by what the library answers: 0 for what was asked for, else the refusal's number.
use Rattle.std.specs.Prelude.{Bool, false, cond, List, ℕ, ◌%◌, eqb, ℤ, pos, length, get_or, take, drop, Result, Ok, Err, Option, Some, None, ⊤}
use Rattle.formats.specs.Reader.{read_at}
use Rattle.formats.specs.Lent.{Writing, writing}
use Rattle.refusals.specs.Table.{number_of, place_of, refusal_of}
use Rattle.refusals.specs.declared.Refusal.{Refusal}
use Rattle.channels.specs.declared.Attribute.{Attribute}
use Rattle.channels.specs.declared.Descriptor.{Descriptor}
use Rattle.channels.specs.declared.Description.{Description}
use Rattle.channels.specs.declared.Place.{Place}
use Rattle.channels.specs.declared.Place.TheVariants.{Absent, Constant, Number}
use Rattle.channels.specs.Descriptors.{absent}
use Rattle.channels.specs.declared.Format.{Format}
use Rattle.channels.specs.declared.Format.TheVariants.{Full, Compact}
use Rattle.descriptions.specs.Description.{description}
use Rattle.descriptions.specs.Read.{nothing, described}
use Rattle.descriptions.specs.declared.Described.{Described}
use Rattle.record_reading.specs.declared.Extent.{Extent}
use Rattle.record_reading.specs.declared.Judged.{Judged}
use Rattle.walks.specs.declared.Step.{Step}
use Rattle.templates.specs.declared.Template.{Template}
use Rattle.templates.specs.declared.Judged as template
use Rattle.calibration.specs.Reading as calibration
use Rattle.readings.specs.Thousandths as readings
use Rattle.costs.specs.declared.Said.{Said}
use Rattle.costs.specs.declared.Judgement.{Judgement}
use Rattle.costs.specs.declared.Told.{Told}
use Rattle.costs.specs.declared.Seat.{Seat}
use Rattle.costs.specs.declared.Piece.{Piece}
use Rattle.costs.specs.declared.Done.{Done}
use Rattle.costs.specs.declared.Stepped.{Stepped}
use Rattle.costs.specs.declared.Templated.{Templated}
use Rattle.costs.specs.declared.Read.{Read}
use Rattle.record_reading.specs.declared.Extent.{Extent}
use Rattle.formats.specs.declared.Failure.{Failure}

-- ---- A channel, a refusal's place

-- what a descriptor says, field by field
abbrev pub handed_descriptor : Descriptor → Said
handed_descriptor d = record {
  included = d.included;
  constant = d.constant;
  detrended = d.detrended;
  scaled = d.scaling.given;
  scaling = d.scaling.number;
  bounded = d.minimum.given;
  minimum = d.minimum.number;
  capped = d.maximum.given;
  maximum = d.maximum.number;
  averaged = d.mean.given;
  mean = d.mean.number;
  spread = d.deviation.given;
  deviation = d.deviation.number;
}

-- what a description says of one channel of the sixteen
unfoldable pub handed_channel : (channel : ℕ) → Description → Said
handed_channel channel d = handed_descriptor (get_or d.channels (channel % 16) absent)

-- a place that is named, or 0
abbrev pub handed_where : Option ℕ → ℕ
handed_where (Some byte) = byte
handed_where None = 0

unfoldable pub handed_place : Refusal → ℕ
handed_place refusal = handed_where (place_of refusal)

-- ---- A record

abbrev pub handed_verdict : Said → Result Extent Refusal → Judgement
handed_verdict said (Ok extent) =
    record { number = 0; place = extent.length; count = extent.count; extended = extent.extended; said = said }
handed_verdict said (Err refusal) =
    record { number = number_of refusal; place = handed_place refusal; count = 0; extended = false; said = said }

unfoldable pub handed_judgement : (channel : ℕ) → Judged → Judgement
handed_judgement channel j = handed_verdict (handed_channel channel j.description) j.verdict

-- ---- A description

-- of a description that is not there nothing is said of any channel
unfoldable pub handed_description : Format → (channel : ℕ) → Result Described Failure → Told
handed_description format channel (Ok d) = record { number = 0; place = d.end; said = handed_channel channel d.description }
handed_description format channel (Err failure) =
    record { number = number_of (refusal_of failure); place = handed_place (refusal_of failure); said = handed_channel channel (nothing format) }

-- the format that is asked for
unfoldable pub format_if : (compact : Bool) → Format
format_if compact = cond compact Compact Full

-- what stands at the start of some bytes, in a format: the description that a writer is handed
abbrev pub said_in : Format → Result Described Failure → Description
said_in format (Ok d) = d.description
said_in format (Err failure) = nothing format

unfoldable pub read_header : Format → List ℕ → Description
read_header format bytes = said_in format (described (read_at (description format) bytes 0))

-- ---- A place of a point, a part of some bytes

abbrev pub seat_of : Place → Seat
seat_of Absent = record { kind = 0; value = pos 0 }
seat_of Constant = record { kind = 1; value = pos 0 }
seat_of (Number value) = record { kind = 2; value = value }

-- the place of one channel of the sixteen
unfoldable pub handed_point : (channel : ℕ) → List Place → Seat
handed_point channel places = seat_of (get_or places (channel % 16) Absent)

-- a place, as it is handed in
unfoldable pub place_from : (kind : ℕ) (value : ℤ) → Place
place_from kind value = cond (eqb kind 2) (Number value) (cond (eqb kind 1) Constant Absent)

unfoldable pub piece_of : List ℕ → Piece
piece_of part = record { length = length part; first = get_or part 0 0 }

-- the part of some bytes that starts at a place and has some size
abbrev pub handed_part : (place size : ℕ) → List ℕ → Piece
handed_part place size bytes = piece_of (take size (drop place bytes))

-- ---- What was written: the answer, and the bytes as they are then

abbrev pub wrote : (length : ℕ) → Done
wrote length = record { number = 0; length = length }

abbrev pub wrote_nothing : Refusal → Done
wrote_nothing refusal = record { number = number_of refusal; length = 0 }

abbrev pub handed_record : (Result ℕ Refusal) → Done
handed_record (Ok length) = wrote length
handed_record (Err refusal) = wrote_nothing refusal

abbrev pub handed_template : (Result ℕ Refusal) → Done
handed_template (Ok length) = wrote length
handed_template (Err refusal) = wrote_nothing refusal

abbrev pub handed_writing : {Answer : Type 0} → (Answer → Done) → Writing Answer → Writing Done
handed_writing handed w = writing (handed w.answer) w.bytes

-- ---- A step over a file

abbrev pub handed_found : (next : ℕ) → Option (Result Extent Refusal) → Stepped
handed_found next (Some (Ok extent)) =
    record { number = 0; place = extent.length; count = extent.count; extended = extent.extended; next = next }
handed_found next None = record { number = 100; place = 0; count = 0; extended = false; next = next }
handed_found next (Some (Err refusal)) =
    record { number = number_of refusal; place = handed_place refusal; count = 0; extended = false; next = next }

unfoldable pub handed_step : Step → Stepped
handed_step step = handed_found step.next step.found

-- ---- A template

-- what a template says, which is zeros where it is refused, with a number and a place
abbrev pub templated : (channel number place : ℕ) → Template → Templated
templated channel number place t = record {
  number = number;
  place = place;
  described = t.described;
  limited = t.limited;
  maximum = t.maximum;
  said = handed_channel channel t.description;
}

abbrev pub handed_stage : (channel : ℕ) → Template → (Result ⊤ Refusal) → Templated
handed_stage channel t (Ok _) = templated channel 0 0 t
handed_stage channel t (Err refusal) = templated channel (number_of refusal) (handed_place refusal) t

unfoldable pub handed_read_template : (channel : ℕ) → template.Judged → Templated
handed_read_template channel j = handed_stage channel j.template j.verdict

-- ---- A reading

abbrev pub handed_reading : readings.Answer → Read
handed_reading (calibration.value z) = record { number = 0; thousandths = z }
handed_reading calibration.absent = record { number = 1; thousandths = pos 0 }
handed_reading (calibration.refused refusal) = record { number = number_of refusal; thousandths = pos 0 }

-- a scaling value, as it is handed in
abbrev pub scaling_from : (given : Bool) (number : ℤ) → Attribute
scaling_from given number = record { given = given; number = number }
