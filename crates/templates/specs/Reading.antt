-- What bytes are read as, left to right: each line names what has to hold there, and the refusal where it doesn't.
use Rattle.std.specs.Prelude.{Bool, true, false, not, cond, ◌&&◌, ◌||◌, List, [], ◌∷◌, ℕ, ◌+◌, ◌-◌, eqb, leb, ltb, length, get_or, take, drop, Result, Ok, Err, Option, Some, None, ⊤}
use Rattle.formats.specs.Reader.{Answer, ok, short, bad, run}
use Rattle.formats.specs.Number.{value}
use Rattle.channels.specs.declared.Description.{Description}
use Rattle.channels.specs.declared.Format.TheVariants.{Compact}
use Rattle.descriptions.specs.Description.{description}
use Rattle.descriptions.specs.Read.{nothing}
use Rattle.templates.specs.declared.Template.{Template}
use Rattle.refusals.specs.declared.Refusal.{Refusal}
use Rattle.refusals.specs.declared.Refusal.TheVariants.{Short, Tag, Length, Maximum, XOrY, ReservedBit, LeftOver}
use Rattle.templates.specs.declared.Judged.{Judged}
use Rattle.templates.specs.declared.Limit.{Limit}

-- ---- Answers

-- a template, by what it says of channels and of points
abbrev pub saying : (described : Bool) (d : Description) (limited : Bool) (maximum : ℕ) → Template
saying described d limited maximum = record { described = described; description = d; limited = limited; maximum = maximum }

abbrev pub accepted : Template → Judged
accepted t = record { verdict = (Ok tt); template = t }

-- a refusal comes with zeros
abbrev pub refused : Refusal → Judged
refused refusal = record { verdict = Err refusal; template = saying false (nothing Compact) false 0 }

-- what has to hold, the refusal where it doesn't, and how to go on where it does
abbrev pub require : Bool → Refusal → Judged → Judged
require true refusal rest = rest
require false refusal rest = refused refusal

-- ---- Inside

-- A length byte, the content that it announces, and what stands behind: both are handed on.
-- What is left is always below 128, so a length that isn't is larger than it.
unfoldable pub with_content : List ℕ → (List ℕ → List ℕ → Judged) → Judged
with_content [] rest = refused Length
with_content (n ∷ b) rest = require (leb n (length b)) Length (rest (take n b) (drop n b))

-- one to three bytes, and the first of several isn't zero
unfoldable pub is_shortest : List ℕ → Bool
is_shortest b = leb 1 (length b) && leb (length b) 3 && (eqb (length b) 1 || not (eqb (get_or b 0 0) 0))

-- nothing may follow 82
unfoldable pub at_end : List ℕ → Judged → Judged
at_end [] rest = rest
at_end (tag ∷ b) rest = refused Tag

-- 82's content, and what stands behind it
unfoldable pub limited_by : (described : Bool) (d : Description) (content behind : List ℕ) → Judged
limited_by described d content behind =
    require (is_shortest content) Maximum
    (at_end behind
    (accepted (saying described d true (value (length content) content))))

-- 82 or the end, behind what was said of channels
unfoldable pub limited_from : (described : Bool) (d : Description) → List ℕ → Judged
limited_from described d [] = accepted (saying described d false 0)
limited_from described d (tag ∷ b) = require (eqb tag 0x82) Tag (with_content b (limited_by described d))

-- the refusal of a description's byte
abbrev pub fault_of : (number place : ℕ) → Refusal
fault_of number place = cond (eqb number 4) (XOrY (Some place)) (ReservedBit place)

-- a description has to fill its field, which starts at place 4
unfoldable pub filling : (size : ℕ) → Answer Description → (behind : List ℕ) → Judged
filling size (ok d n) behind = require (eqb n size) Length (limited_from true d behind)
filling size short behind = refused Length
filling size (bad number place) behind = refused (fault_of number (4 + place))

-- 81's content, and what stands behind it
unfoldable pub described_by : (content behind : List ℕ) → Judged
described_by content behind = filling (length content) (run (description Compact) content) behind

-- 81 if it is there, and what may follow it
unfoldable pub content_of : List ℕ → Judged
content_of [] = limited_from false (nothing Compact) []
content_of (tag ∷ b) = cond (eqb tag 0x81) (with_content b described_by) (limited_from false (nothing Compact) (tag ∷ b))

-- ---- The whole slice

-- the length is settled before the content
unfoldable pub length_and_content : List ℕ → Judged
length_and_content [] = refused Short
length_and_content (n ∷ content) =
    require (ltb n 128) Length
    (require (leb n (length content)) Short
    (require (leb (length content) n) (LeftOver (2 + n))
    (content_of content)))

unfoldable pub template_of : List ℕ → Judged
template_of [] = refused Short
template_of (tag ∷ b) = require (eqb tag 0xB1) Tag (length_and_content b)

-- ---- What a step of the code answers

-- where the content ends that the length byte at a place announces
unfoldable pub end_of : List ℕ → (at : ℕ) → Option ℕ
end_of s at = cond (leb (length s) at) None (cond (ltb (length s - (at + 1)) (get_or s at 0)) None (Some (at + 1 + get_or s at 0)))

-- what stands behind what is said of channels, by itself: a verdict, and the maximum if it is there
abbrev pub limit_of : Judged → Limit
limit_of j = record { verdict = j.verdict; limited = j.template.limited; maximum = j.template.maximum }

abbrev pub verdict_with : Result ⊤ Refusal → Template → Judged
verdict_with (Ok _) t = accepted t
verdict_with (Err refusal) t = refused refusal

-- a template of what is said of channels and of that
abbrev pub filled : (described : Bool) (d : Description) → Limit → Judged
filled described d l = verdict_with l.verdict (saying described d l.limited l.maximum)
