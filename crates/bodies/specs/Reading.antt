-- What is said of a body by its template, the first that applies: the template's own refusals, 16, then the body's 8 and 1 as its bytes come, 9, 18; and 10 of a point.
use Rattle.std.specs.Prelude.{Bool, cond, ◌&&◌, List, [], ℕ, ltb, length, get_or, ℤ, Result, Ok, Err, ⊤}
use Rattle.formats.specs.Reader.{Answer, ok, short, bad}
use Rattle.formats.specs.declared.Failure.TheVariants.{Short, Bad}
use Rattle.refusals.specs.Stages.{require, or_else}
use Rattle.refusals.specs.Table.{refusal_of}
use Rattle.refusals.specs.declared.Refusal.TheVariants.{LeftOver, NoPoint, Tag, Maximum}
use Rattle.channels.specs.Descriptors.{included, stored}
use Rattle.channels.specs.declared.Description.{Description}
use Rattle.channels.specs.declared.Format.TheVariants.{Compact}
use Rattle.channels.specs.declared.Place.{Place}
use Rattle.descriptions.specs.Read.{nothing}
use Rattle.point_places.specs.Places.{places_of, nowhere}
use Rattle.templates.specs.declared.Template.{Template}
use Rattle.templates.specs.declared.Judged as templates
use Rattle.bodies.specs.Body.{points_in}
use Rattle.bodies.specs.declared.Rule.{Rule}
use Rattle.bodies.specs.declared.Judged.{Judged}
use Rattle.bodies.specs.declared.Refused.TheVariants as whose
use Rattle.bodies.specs.declared.Refused.{Refused}
use Rattle.refusals.specs.declared.Refusal.{Refusal}

-- ---- The template

-- the template's own refusals, and then 16 where it describes no channels
unfoldable pub ruling : Result ⊤ Refusal → (described : Bool) → Result ⊤ Refusal
ruling own described = or_else own (require described Tag)

abbrev pub ruled : templates.Judged → Result ⊤ Refusal
ruled j = ruling j.verdict j.template.described

-- what it says of its bodies
abbrev pub rule_of : templates.Judged → Rule
rule_of j = record {
  judgement = ruled j;
  included = included j.template.description;
  stored = stored j.template.description;
  limited = j.template.limited;
  maximum = j.template.maximum;
}

-- ---- The body

-- more points than 82 allows, where it is there
unfoldable pub exceeds : (limited : Bool) (maximum count : ℕ) → Bool
exceeds limited maximum count = limited && ltb maximum count

-- by what reading a slice of `size` bytes answers: the reader's refusal, 9 at the first byte left over, 18
unfoldable pub verdict_by : (limited : Bool) (maximum size : ℕ) → Answer (List (List ℤ)) → Result ℕ Refused
verdict_by limited maximum size (ok points n) =
    cond (ltb n size) (Err (whose.Body (LeftOver n))) (cond (exceeds limited maximum (length points)) (Err (whose.Body Maximum)) (Ok (length points)))
verdict_by limited maximum size short = Err (whose.Body (refusal_of Short))
verdict_by limited maximum size (bad k p) = Err (whose.Body (refusal_of (Bad k p)))

-- the body b of a template
abbrev pub read : Template → (b : List ℕ) → Answer (List (List ℤ))
read t b = points_in (stored t.description) b

abbrev pub verdict_of : Template → (b : List ℕ) → Result ℕ Refused
verdict_of t b = verdict_by t.limited t.maximum (length b) (read t b)

-- ---- judge

abbrev pub unjudged : Result ℕ Refused → Judged
unjudged v = record { verdict = v; description = nothing Compact }

-- a body has its template's description
abbrev pub described : Description → Result ℕ Refused → Judged
described d (Ok count) = record { verdict = (Ok count); description = d }
described d (Err refused) = unjudged (Err refused)

abbrev pub judged_if : Result ⊤ Refusal → Template → (b : List ℕ) → Judged
judged_if (Ok _) t b = described t.description (verdict_of t b)
judged_if (Err refusal) t b = unjudged (Err (whose.Template refusal))

unfoldable pub judged_by : templates.Judged → (b : List ℕ) → Judged
judged_by j b = judged_if (ruled j) j.template b

-- ---- judge_point and point

-- behind the same: whether there is a point of this index
abbrev pub pointed_at : (index : ℕ) → Result ℕ Refused → Result ⊤ Refused
pointed_at index (Ok count) = cond (ltb index count) (Ok tt) (Err (whose.Body NoPoint))
pointed_at index (Err refused) = Err refused

unfoldable pub pointed_by : (index : ℕ) → templates.Judged → (b : List ℕ) → Result ⊤ Refused
pointed_by index j b = pointed_at index (judged_by j b).verdict

-- its sixteen places, all absent where there is no such point
abbrev pub point_at : (index : ℕ) → Answer (List (List ℤ)) → List ℤ
point_at index (ok points n) = get_or points index []
point_at index short = []
point_at index (bad k p) = []

abbrev pub places_if : Result ⊤ Refused → (index : ℕ) → Template → (b : List ℕ) → List Place
places_if (Ok _) index t b = places_of (included t.description) (stored t.description) (point_at index (read t b))
places_if (Err refused) index t b = nowhere

unfoldable pub places_by : (index : ℕ) → templates.Judged → (b : List ℕ) → List Place
places_by index j b = places_if (pointed_by index j b) index j.template b
