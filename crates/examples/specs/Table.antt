-- The proved examples of document 01: one table of questions and answers, and one claim.
--
-- Each answer is a function's own. `record_reading::judge` promises `r ≡ judged (run full_record bytes)`, `judge_whole`, `judge_point` and `point` promise
-- equations with `judged_whole`, `pointed_at` and `places_in`, `templates::read` promises `r ≡ template_of bytes`, `readings::to_thousandths`
-- promises `told r ≡ reading raw e f`, and none can meet its promise by a second answer. The right sides of these equations are what is
-- computed here.
use Rattle.std.specs.Prelude.{◌≡◌, refl, Bool, true, false, List, [], ◌∷◌, ◌++◌, map, ℕ, ℤ, pos, negsuc, replicate, set, take, length, Ok, Result, Err, Option, Some, None, ⊤}
use Rattle.formats.specs.Reader as reader
use Rattle.formats.specs.Reader.{Answer, next, run, bind, each, times, one, free, literal}
use Rattle.formats.specs.Number as numbers
use Rattle.formats.specs.Number.{number}
use Rattle.refusals.specs.Table.{number_of, place_of, named, refusal_of}
use Rattle.refusals.specs.Stages.{require, or_else}
use Rattle.refusals.specs.Ranges.{first_misfit}
use Rattle.refusals.specs.declared.Refusal.{Refusal}
use Rattle.refusals.specs.declared.Refusal.TheVariants.{Short, Identifier, XOrY, ReservedBit, OpeningBits, NoPoint, Maximum}
use Rattle.channels.specs.Channel.{signed_of}
use Rattle.channels.specs.Stored.{offset, value_of}
use Rattle.tip_switch.specs.Switch.{state_of}
use Rattle.channels.specs.declared.Descriptor.{Descriptor}
use Rattle.channels.specs.declared.Description.{Description}
use Rattle.channels.specs.declared.Place.{Place}
use Rattle.channels.specs.declared.Place.TheVariants.{Absent, Constant, Number}
use Rattle.channels.specs.Descriptors.{no_attribute, absent}
use Rattle.channels.specs.declared.Format.TheVariants.{Full, Compact}
use Rattle.descriptions.specs.Description.{attribute, descriptor, includes, channel_of, description}
use Rattle.descriptions.specs.Read.{nothing}
use Rattle.points.specs.Points.{stored_from, channels, sample, point}
use Rattle.point_places.specs.Places.{places_of, nowhere}
use Rattle.records.specs.Record.{Record, extension, full_record, present}
use Rattle.record_reading.specs.Verdict.{verdict_from, description_in, judged, judged_whole}
use Rattle.record_points.specs.Pointing.{pointed_at, places_in}
use Rattle.record_reading.specs.declared.Extent.{Extent}
use Rattle.record_reading.specs.declared.Judged.{Judged}
use Rattle.demands.specs.Shortest.{M}
use Rattle.templates.specs.declared.Judged as judgement
use Rattle.templates.specs.Reading as templates
use Rattle.templates.specs.Reading.{saying, with_content, is_shortest, at_end, limited_by, limited_from, filling, described_by, content_of, length_and_content, template_of}
use Rattle.calibration.specs.Reading as calibration
use Rattle.calibration.specs.Reading.{value}
use Rattle.readings.specs.Thousandths as readings
use Rattle.readings.specs.Thousandths.{nearest, thousandths, reading}

-- ---- Questions and answers

-- what is asked: of some bytes, what record or what template they are; of a scaling value, E and F, what it makes of raw numbers
pub data Question : Type 0 where
  bytes : List ℕ → Question
  template : List ℕ → Question
  scaled : (e f : ℕ) → List ℤ → Question

-- no refusal; or one, by document 01's number and the place that it names
pub data Numbered : Type 0 where
  accepted : Numbered
  refused : (number : ℕ) → Option ℕ → Numbered

abbrev numbered : Refusal → Numbered
numbered refusal = refused (number_of refusal) (place_of refusal)

-- what is said of some bytes
pub record Said : Type 0 where
  pub front : Judged  -- by judge
  pub whole : Judged  -- by judge_whole
  pub number : Numbered  -- that, as document 01 numbers it
  pub pointed : Result ⊤ Refusal  -- by judge_point, of the first point
  pub places : List Place  -- by point, of the first point

pub data Answered : Type 0 where
  said : Said → Answered
  judged_as : Numbered → judgement.Judged → Answered
  read : List readings.Answer → Answered

unfoldable pub verdict_number : Result Extent Refusal → Numbered
verdict_number (Ok extent) = accepted
verdict_number (Err refusal) = numbered refusal

unfoldable pub template_number : Result ⊤ Refusal → Numbered
template_number (Ok _) = accepted
template_number (Err refusal) = numbered refusal

-- what is said, by what reading the bytes answers
unfoldable pub said_of : (size : ℕ) → Answer Record → Said
said_of size answer = record {
  front = judged answer;
  whole = judged_whole size answer;
  number = verdict_number (judged answer).verdict;
  pointed = pointed_at 0 answer;
  places = places_in 0 answer;
}

unfoldable pub answered : Question → Answered
answered (bytes b) = said (said_of (length b) (run full_record b))
answered (template b) = judged_as (template_number (template_of b).verdict) (template_of b)
answered (scaled e f raws) = read (map (λ raw. reading raw e f) raws)

-- ---- Answers, in the words of document 01

-- one verdict, by judge and by judge_whole
abbrev says : Result Extent Refusal → Description → Numbered → Result ⊤ Refusal → List Place → Answered
says v d number pointed places = said (record {
  front = record { verdict = v; description = d };
  whole = record { verdict = v; description = d };
  number = number;
  pointed = pointed;
  places = places;
})

-- a record of some length, without extended data: with no points, and with one
abbrev empty : (length : ℕ) → Description → Answered
empty n d = says (Ok (record { length = n; count = 0; extended = false })) d accepted (Err NoPoint) nowhere

abbrev single : (length : ℕ) → Description → List Place → Answered
single n d places = says (Ok (record { length = n; count = 1; extended = false })) d accepted (Ok tt) places

-- a refusal, with its number and its place; 1 has none
abbrev refusal : (number : ℕ) → Option ℕ → Refusal → Answered
refusal number place r = says (Err r) (nothing Full) (refused number place) (Err r) nowhere

abbrev short : Answered
short = refusal 1 None Short

-- X and Y, and no other channel: what is said of them, and a point of them
abbrev plain : (constant : Bool) → Descriptor
plain constant = record {
  included = true;
  scaling = no_attribute;
  minimum = no_attribute;
  maximum = no_attribute;
  mean = no_attribute;
  deviation = no_attribute;
  constant = constant;
  detrended = false;
}

abbrev described : Descriptor → Descriptor → Description
described x y = record { channels = x ∷ y ∷ replicate 14 absent; mark = Full }

abbrev both : Description
both = described (plain false) (plain false)

abbrev constant_x : Description
constant_x = described (plain true) (plain false)

abbrev xy : Place → Place → List Place
xy x y = x ∷ y ∷ replicate 14 Absent

-- ---- The table, of which M is the shortest record

pub record Example : Type 0 where
  pub question : Question
  pub answer : Answered

infix 20 ◌is◌
abbrev ◌is◌ : Question → Answered → Example
q is a = record { question = q; answer = a }

abbrev pub table : List Example
table =
    (bytes M is empty 17 both)  -- P1
    ∷ (bytes (take 16 M) is short)  -- P2
    ∷ (bytes [] is short)  -- P3
    ∷ (bytes (0x53 ∷ 0x45 ∷ []) is refusal 2 (Some 1) (Identifier 1))  -- P4
    ∷ (bytes (set M 8 0x40) is refusal 4 (Some 8) (XOrY (Some 8)))  -- P5
    ∷ (bytes (set M 10 0x01) is refusal 5 (Some 10) (ReservedBit 10))  -- P6
    ∷ (bytes (set M 13 0x01) is refusal 7 (Some 13) (OpeningBits 13))  -- P7
    ∷ (bytes (set M 16 0x01 ++ 0x7F ∷ 0xFF ∷ 0x80 ∷ 0x00 ∷ []) is single 21 both (xy (Number (negsuc 0)) (Number (pos 0))))  -- P8: X -1, Y 0
    ∷ (bytes (set (set M 10 0x04) 16 0x01 ++ 0x80 ∷ 0x05 ∷ []) is single 19 constant_x (xy Constant (Number (pos 5))))  -- P9: X constant, Y 5
    ∷ (template (0xB1 ∷ 0x03 ∷ 0x82 ∷ 0x01 ∷ 0x64 ∷ []) is judged_as accepted (templates.accepted (saying false (nothing Compact) true 100)))  -- P10
    ∷ (template (0xB1 ∷ 0x04 ∷ 0x82 ∷ 0x02 ∷ 0x00 ∷ 0x64 ∷ []) is judged_as (refused 18 None) (templates.refused Maximum))  -- P11
    ∷ (scaled 26 1952 (pos 1 ∷ negsuc 0 ∷ pos 3 ∷ []) is read (value (pos 1) ∷ value (negsuc 0) ∷ value (pos 2) ∷ []))  -- P12: 1, -1 and 3 are 1, -1 and 2
    ∷ []

pub examples : map (λ e. answered e.question) table ≡ map (λ e. e.answer) table
unfolding answered said_of run next bind reader.map each times one free literal number value_of offset signed_of attribute descriptor includes channel_of description
    stored_from channels state_of sample point extension full_record places_of
    named refusal_of present verdict_from description_in verdict_number judged_whole pointed_at places_in
    numbers.value nothing template_number with_content is_shortest at_end limited_by limited_from filling described_by content_of length_and_content template_of
    nearest thousandths calibration.numbers first_misfit or_else require calibration.read_where calibration.reading
examples = refl
