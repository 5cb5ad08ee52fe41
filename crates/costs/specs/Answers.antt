-- Each exported function has one answer: whatever meets its promise is the same, and of a writer the bytes that it leaves too.
use Rattle.std.specs.Prelude.{◌≡◌, Bool, true, List, ℕ, ℤ, length}
use Rattle.formats.specs.Reader.{run, read_at}
use Rattle.formats.specs.OneAnswer.{OneAnswer, named}
use Rattle.channels.specs.declared.Format.TheVariants.{Full, Compact}
use Rattle.descriptions.specs.Description.{description}
use Rattle.descriptions.specs.Read.{described}
use Rattle.records.specs.Record.{full_record}
use Rattle.record_reading.specs.Verdict.{judged}
use Rattle.record_points.specs.Pointing.{places_in}
use Rattle.record_parts.specs.Parts.{extended_place, extended_size, rest_place, rest_size}
use Rattle.record_writing.specs.Write.{write_of}
use Rattle.walks.specs.Walk.{step_of}
use Rattle.templates.specs.Reading.{template_of}
use Rattle.template_writing.specs.Writing as template
use Rattle.readings.specs.Thousandths.{reading, place_reading}
use Rattle.costs.specs.Handed.{handed_judgement, handed_description, format_if, read_header, handed_point, place_from, handed_part, handed_record, handed_template, handed_writing, handed_step, handed_read_template, handed_reading, scaling_from}

module _ (s : List ℕ) where
  pub one-judgement : (channel : ℕ) → OneAnswer (λ r. r ≡ handed_judgement channel (judged (run full_record s)))
  one-judgement channel = named

  pub one-description : (compact : Bool) (channel : ℕ) → OneAnswer (λ r. r ≡ handed_description (format_if compact) channel (described (read_at (description (format_if compact)) s 0)))
  one-description compact channel = named

  pub one-point : (index channel : ℕ) → OneAnswer (λ r. r ≡ handed_point channel (places_in index (run full_record s)))
  one-point index channel = named

  pub one-extended : OneAnswer (λ r. r ≡ handed_part (extended_place (run full_record s)) (extended_size (run full_record s)) s)
  one-extended = named

  pub one-rest : OneAnswer (λ r. r ≡ handed_part (rest_place (run full_record s)) (rest_size (length s) (run full_record s)) s)
  one-rest = named

  pub one-step : (place : ℕ) → OneAnswer (λ r. r ≡ handed_step (step_of s place))
  one-step place = named

  pub one-template : (channel : ℕ) → OneAnswer (λ r. r ≡ handed_read_template channel (template_of s))
  one-template channel = named

  pub one_written : (count : ℕ) (values : List ℤ) (wanted : Bool) (extended out : List ℕ)
      → OneAnswer (λ w. w ≡ handed_writing handed_record (write_of (read_header Full s) count values wanted extended out))
  one_written count values wanted extended out = named

  pub one-template-written : (limited : Bool) (maximum : ℕ) (out : List ℕ)
      → OneAnswer (λ w. w ≡ handed_writing handed_template (template.write_of true (read_header Compact s) limited maximum out))
  one-template-written limited maximum out = named

pub one-reading : (raw : ℤ) (e f : ℕ) → OneAnswer (λ r. r ≡ handed_reading (reading raw e f))
one-reading raw e f = named

pub one-place-reading : (kind : ℕ) (value : ℤ) (given : Bool) (number : ℤ)
    → OneAnswer (λ r. r ≡ handed_reading (place_reading (place_from kind value) (scaling_from given number)))
one-place-reading kind value given number = named
