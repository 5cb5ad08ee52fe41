-- What is answered of some bytes, by what reading them answers. A refusal has the number and the place that `refusals` gives it.
use Rattle.std.specs.Prelude.{cond, ℕ, ◌-◌, ltb, length, Ok, Result, Err}
use Rattle.formats.specs.Reader.{Answer, ok, short, bad}
use Rattle.formats.specs.declared.Failure.TheVariants.{Short, Bad}
use Rattle.refusals.specs.Table.{refusal_of}
use Rattle.refusals.specs.declared.Refusal.TheVariants.{LeftOver}
use Rattle.channels.specs.declared.Description.{Description}
use Rattle.channels.specs.declared.Format.TheVariants.{Full}
use Rattle.descriptions.specs.Read.{nothing}
use Rattle.records.specs.Record.{Record, present}
use Rattle.record_layouts.specs.declared.Layout.{Layout}
use Rattle.record_reading.specs.declared.Extent.{Extent}
use Rattle.record_reading.specs.declared.Judged.{Judged}
use Rattle.refusals.specs.declared.Refusal.{Refusal}

-- ---- Judging

-- how far a record reaches that stands from a place on and lies so
abbrev pub extent_of : (start : ℕ) → Layout → Extent
extent_of start l = record { length = l.end - start; count = l.count; extended = l.announced }

-- what was read from a place on: a record with its length, its count of points and whether extended data are present; or the refusal
unfoldable pub verdict_from : (start : ℕ) → Answer Record → Result Extent Refusal
verdict_from start (ok r n) = Ok (record { length = n - start; count = length r.points; extended = present r.extended })
verdict_from start short = Err (refusal_of Short)
verdict_from start (bad k p) = Err (refusal_of (Bad k p))

-- a record's description, which says nothing of any channel where there is no record
unfoldable pub description_in : Answer Record → Description
description_in (ok r n) = r.description
description_in short = nothing Full
description_in (bad k p) = nothing Full

-- the front of some bytes
abbrev pub judged : Answer Record → Judged
judged x = record { verdict = verdict_from 0 x; description = description_in x }

-- a verdict, where there is no record
abbrev pub unjudged : Result Extent Refusal → Judged
unjudged v = record { verdict = v; description = nothing Full }

-- a whole slice of `size` bytes: the same, and 9 at the place of the first byte left over
unfoldable pub judged_whole : (size : ℕ) → Answer Record → Judged
judged_whole size (ok r n) = cond (ltb n size) (unjudged (Err (LeftOver n))) (judged (ok r n))
judged_whole size short = judged short
judged_whole size (bad k p) = judged (bad k p)
