-- The examples of request L4's specification that turn full records: one table of questions and answers, and one claim.
use Rattle.std.specs.Prelude.{◌≡◌, refl, ℕ, ◌-◌, length, replicate, Result, Ok, Err, Some}
use mathlib.Core.List.{List, [], ◌∷◌, ◌++◌, map, flat_map, flatten}
use Rattle.formats.specs.Reader as reader
use Rattle.formats.specs.Reader.{next, run, bind, each, times, one, free, literal}
use Rattle.formats.specs.Number.{number, digits}
use Rattle.formats.specs.Binary.{binary}
use Rattle.formats.specs.Put.{puts}
use Rattle.formats.specs.Writes.{encode_each}
use Rattle.refusals.specs.Table.{number_of, in_compact, named, refusal_of}
use Rattle.refusals.specs.Stages.{require, or_else, stages, compactly}
use Rattle.refusals.specs.Ranges.{first_misfit}
use Rattle.refusals.specs.declared.AttributeName.TheVariants as attribute
use Rattle.refusals.specs.declared.Quantity.TheVariants as quantity
use Rattle.refusals.specs.declared.Refusal.{Refusal}
use Rattle.refusals.specs.declared.Refusal.TheVariants.{Short, XOrY, LeftOver, Room, NotCompact}
use Rattle.channels.specs.Channel.{signed_of, is_same}
use Rattle.channels.specs.Stored.{offset, value_of, stored_of, fits}
use Rattle.descriptions.specs.Description as descriptions
use Rattle.descriptions.specs.Description.{descriptor, includes, channel_of, description, encode_attribute, descriptor_byte, encode_descriptor, encode_channel, encode_description, includes_xy, tidy_attribute, flagless, tidy_descriptor, fits_attribute, every, neat}
use Rattle.description_judging.specs.Judging as described
use Rattle.description_judging.specs.Judging.{numbers_of, neat_in}
use Rattle.points.specs.Points.{stored_from, channels, sample, point, widths, width, encode_sample, encode_point, fits_sample}
use Rattle.orders.specs.Orders.{step, stride, values_of}
use Rattle.values.specs.Values as values
use Rattle.values.specs.Values.{samples_in, samples_from, samples}
use Rattle.records.specs.Record.{extension, full_record, present}
use Rattle.templates.specs.Template.{encode_described, encode_limited, encode}
use Rattle.bodies.specs.Reading.{exceeds}
use Rattle.bodies.specs.Writing.{count_fits, judgement_by}
use Rattle.turning.specs.Turning.{Turning, turning, body_judgement, judgement_of, put_both, turned, turn_of}
use Rattle.turning.specs.declared.Turned.{Turned}

-- ---- Questions and answers

-- some bytes, room for a template and for a body; what is answered and what the outputs hold then, and the refusal's number, which is 0 where nothing was refused
record Example : Type 0 where
  bytes : List ℕ
  for_template : ℕ
  for_body : ℕ
  number : ℕ
  answer : Turning

abbrev numbered : Result Turned Refusal → ℕ
numbered (Ok sizes) = 0
numbered (Err refusal) = number_of refusal

abbrev example : (bytes : List ℕ) (for_template for_body : ℕ) → Turning → Example
example bytes for_template for_body answer = record { bytes = bytes; for_template = for_template; for_body = for_body; number = numbered answer.answer; answer = answer }

-- what an output holds before
abbrev untouched : (room : ℕ) → List ℕ
untouched room = replicate room 0xAA

-- a template and a body are made, and behind them the outputs are as they were
abbrev makes : (bytes : List ℕ) (for_template for_body : ℕ) (template body : List ℕ) → Example
makes bytes for_template for_body template body = record {
  bytes = bytes;
  for_template = for_template;
  for_body = for_body;
  number = 0;
  answer = turning (Ok (record { template = length template; body = length body })) (template ++ untouched (for_template - length template)) (body ++ untouched (for_body - length body));
}

-- a refusal, by its number, leaves both as they were
abbrev refuses : (bytes : List ℕ) (for_template for_body number : ℕ) → Refusal → Example
refuses bytes for_template for_body number refusal = record { bytes = bytes; for_template = for_template; for_body = for_body; number = number; answer = turning (Err refusal) (untouched for_template) (untouched for_body) }

-- ---- The table

-- every one has the identifier and the version of a full record
abbrev opened : List ℕ → List ℕ
opened rest = 0x53 ∷ 0x44 ∷ 0x49 ∷ 0x00 ∷ 0x20 ∷ 0x31 ∷ 0x30 ∷ 0x00 ∷ rest

abbrev table : List Example
table =
    makes (opened (0xC0 ∷ 0x00 ∷ 0x00 ∷ 0x00 ∷ 0x00 ∷ 0x00 ∷ 0x00 ∷ 0x00 ∷ 0x00 ∷ [])) 8 0 (0xB1 ∷ 0x06 ∷ 0x81 ∷ 0x04 ∷ 0xC0 ∷ 0x00 ∷ 0x00 ∷ 0x00 ∷ []) []
    ∷ makes (opened (0xC0 ∷ 0x00 ∷ 0x00 ∷ 0x00 ∷ 0x00 ∷ 0x00 ∷ 0x00 ∷ 0x00 ∷ 0x01 ∷ 0x7F ∷ 0xFF ∷ 0x80 ∷ 0x00 ∷ [])) 8 2 (0xB1 ∷ 0x06 ∷ 0x81 ∷ 0x04 ∷ 0xC0 ∷ 0x00 ∷ 0x00 ∷ 0x00 ∷ []) (0x7F ∷ 0x80 ∷ [])
    ∷ refuses (opened (0xC0 ∷ 0x00 ∷ 0x00 ∷ 0x00 ∷ 0x00 ∷ 0x00 ∷ 0x00 ∷ 0x00 ∷ 0x01 ∷ 0x7F ∷ 0xFF ∷ 0x80 ∷ 0x00 ∷ [])) 7 2 15 Room
    ∷ refuses (opened (0xC0 ∷ 0x00 ∷ 0x00 ∷ 0x00 ∷ 0x00 ∷ 0x00 ∷ 0x00 ∷ 0x00 ∷ 0x01 ∷ 0x7F ∷ 0xFF ∷ 0x80 ∷ 0x00 ∷ [])) 8 1 15 Room
    ∷ refuses (opened (0xC0 ∷ 0x00 ∷ 0x00 ∷ 0x00 ∷ 0x00 ∷ 0x00 ∷ 0x00 ∷ 0x00 ∷ 0x01 ∷ 0x7F ∷ 0xFF ∷ 0x80 ∷ [])) 0 0 1 Short
    ∷ refuses (opened (0xC0 ∷ 0x00 ∷ 0x00 ∷ 0x00 ∷ 0x00 ∷ 0x00 ∷ 0x00 ∷ 0x00 ∷ 0x01 ∷ 0x7F ∷ 0xFF ∷ 0x80 ∷ 0x00 ∷ 0x00 ∷ [])) 0 0 9 (LeftOver 21)
    ∷ refuses (opened (0x40 ∷ 0x00 ∷ 0x00 ∷ 0x00 ∷ 0x00 ∷ 0x00 ∷ 0x00 ∷ 0x00 ∷ 0x00 ∷ [])) 0 0 4 (XOrY (Some 8))
    ∷ refuses (opened (0xC0 ∷ 0x00 ∷ 0x00 ∷ 0x00 ∷ 0x00 ∷ 0x00 ∷ 0x00 ∷ 0x00 ∷ 0x01 ∷ 0x80 ∷ 0x80 ∷ 0x80 ∷ 0x00 ∷ [])) 0 0 21 (NotCompact (quantity.Value 0 0))
    ∷ refuses (opened (0xC0 ∷ 0x00 ∷ 0x00 ∷ 0x00 ∷ 0x00 ∷ 0x00 ∷ 0x00 ∷ 0x00 ∷ 0x01 ∷ 0x80 ∷ 0x7F ∷ 0x7F ∷ 0x7F ∷ [])) 0 0 21 (NotCompact (quantity.Value 1 1))
    ∷ makes (opened (0xC0 ∷ 0x00 ∷ 0x04 ∷ 0x00 ∷ 0x00 ∷ 0x00 ∷ 0x00 ∷ 0x00 ∷ 0x01 ∷ 0x80 ∷ 0x05 ∷ [])) 99 99 (0xB1 ∷ 0x06 ∷ 0x81 ∷ 0x04 ∷ 0xC0 ∷ 0x00 ∷ 0x04 ∷ 0x00 ∷ []) (0x85 ∷ [])
    ∷ makes (opened (0xC0 ∷ 0x00 ∷ 0x04 ∷ 0x04 ∷ 0x00 ∷ 0x00 ∷ 0x00 ∷ 0x00 ∷ 0x00 ∷ [])) 99 99 (0xB1 ∷ 0x06 ∷ 0x81 ∷ 0x04 ∷ 0xC0 ∷ 0x00 ∷ 0x04 ∷ 0x04 ∷ []) []
    ∷ refuses (opened (0xC0 ∷ 0x00 ∷ 0x04 ∷ 0x04 ∷ 0x00 ∷ 0x00 ∷ 0x00 ∷ 0x00 ∷ 0x01 ∷ [])) 99 99 21 (NotCompact quantity.Count)
    ∷ refuses (opened (0xC0 ∷ 0x00 ∷ 0x00 ∷ 0x00 ∷ 0x00 ∷ 0x80 ∷ 0x00 ∷ 0x00 ∷ 0x00 ∷ 0x00 ∷ 0x00 ∷ [])) 99 99 21 (NotCompact quantity.ExtendedData)
    ∷ refuses (opened (0xC0 ∷ 0x00 ∷ 0x00 ∷ 0x00 ∷ 0x00 ∷ 0x80 ∷ 0x00 ∷ 0x00 ∷ 0x01 ∷ 0x80 ∷ 0x80 ∷ 0x80 ∷ 0x00 ∷ 0x00 ∷ 0x00 ∷ [])) 99 99 21 (NotCompact (quantity.Value 0 0))
    ∷ refuses (opened (0xC0 ∷ 0x00 ∷ 0x40 ∷ 0x7F ∷ 0x7F ∷ 0x00 ∷ 0x00 ∷ 0x00 ∷ 0x00 ∷ 0x00 ∷ 0x00 ∷ [])) 99 99 21 (NotCompact (quantity.Attribute 0 attribute.Minimum))
    ∷ makes (opened (0xC0 ∷ 0x00 ∷ 0x40 ∷ 0x7F ∷ 0x80 ∷ 0x00 ∷ 0x00 ∷ 0x00 ∷ 0x00 ∷ 0x00 ∷ 0x00 ∷ [])) 99 99 (0xB1 ∷ 0x07 ∷ 0x81 ∷ 0x05 ∷ 0xC0 ∷ 0x00 ∷ 0x40 ∷ 0x00 ∷ 0x00 ∷ []) []
    ∷ refuses (opened (0xC0 ∷ 0x00 ∷ 0x08 ∷ 0x01 ∷ 0x00 ∷ 0x00 ∷ 0x00 ∷ 0x00 ∷ 0x00 ∷ 0x00 ∷ 0x00 ∷ [])) 99 99 21 (NotCompact (quantity.Attribute 0 attribute.Deviation))
    ∷ makes (opened (0xC0 ∷ 0x00 ∷ 0x88 ∷ 0xFF ∷ 0xFF ∷ 0x00 ∷ 0xFF ∷ 0x00 ∷ 0x00 ∷ 0x00 ∷ 0x00 ∷ 0x00 ∷ 0x00 ∷ [])) 99 99 (0xB1 ∷ 0x09 ∷ 0x81 ∷ 0x07 ∷ 0xC0 ∷ 0x00 ∷ 0x88 ∷ 0xFF ∷ 0xFF ∷ 0xFF ∷ 0x00 ∷ []) []
    ∷ refuses (opened (0xC0 ∷ 0x00 ∷ 0x00 ∷ 0x20 ∷ 0x81 ∷ 0x00 ∷ 0x00 ∷ 0x00 ∷ 0x00 ∷ 0x00 ∷ 0x01 ∷ 0xFF ∷ 0xFF ∷ 0x80 ∷ 0x00 ∷ [])) 99 99 21 (NotCompact (quantity.Attribute 1 attribute.Maximum))
    ∷ makes (opened (0xC1 ∷ 0x00 ∷ 0x00 ∷ 0x00 ∷ 0x00 ∷ 0x00 ∷ 0x00 ∷ 0x00 ∷ 0x00 ∷ 0x03 ∷ 0x80 ∷ 0x00 ∷ 0x80 ∷ 0x00 ∷ 0x00 ∷ 0x00 ∷ 0x80 ∷ 0x00 ∷ 0x80 ∷ 0x00 ∷ 0x00 ∷ 0x0A ∷ 0x80 ∷ 0x00 ∷ 0x80 ∷ 0x00 ∷ 0x00 ∷ 0x14 ∷ [])) 99 99 (0xB1 ∷ 0x07 ∷ 0x81 ∷ 0x05 ∷ 0xC1 ∷ 0x00 ∷ 0x00 ∷ 0x00 ∷ 0x00 ∷ []) (0x80 ∷ 0x80 ∷ 0x00 ∷ 0x80 ∷ 0x80 ∷ 0x0A ∷ 0x80 ∷ 0x80 ∷ 0x14 ∷ [])
    ∷ []

-- an example as the function answers it
abbrev found : Example → Example
found e = example e.bytes e.for_template e.for_body (turn_of (length e.bytes) (run full_record e.bytes) (untouched e.for_template) (untouched e.for_body))

pub examples : map found table ≡ table
unfolding run next bind reader.map each times one free literal number digits value_of offset stored_of fits signed_of is_same
    descriptions.attribute descriptor includes channel_of description stored_from channels sample point extension full_record present named refusal_of
    require or_else stages compactly in_compact first_misfit numbers_of described.numbers_from described.numbers neat_in described.judgement_of includes_xy tidy_attribute flagless tidy_descriptor fits_attribute every neat
    widths width fits_sample step stride values_of samples_in samples_from samples values.judgement_of exceeds count_fits judgement_by
    binary encode_attribute descriptor_byte encode_descriptor encode_channel encode_description encode_each encode_described encode_limited encode encode_sample encode_point flatten flat_map puts
    body_judgement judgement_of put_both turned turn_of
examples = refl
