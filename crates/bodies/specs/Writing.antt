-- Writing a body by its template: what keeps one from being written, stage by stage, and what becomes of the bytes that a writer is lent.
use Rattle.std.specs.Prelude.{Bool, cond, not, ◌&&◌, ◌||◌, List, [], ◌∷◌, ℕ, eqb, leb, ltb, ℤ, length, Result, Ok, Err, ⊤}
use Rattle.formats.specs.Put.{puts}
use Rattle.formats.specs.Lent.{Writing, writing}
use Rattle.refusals.specs.Stages.{require, stages, compactly}
use Rattle.refusals.specs.declared.Quantity.TheVariants as quantity
use Rattle.refusals.specs.declared.Refusal.TheVariants.{NotCompact, Maximum, Room}
use Rattle.channels.specs.Descriptors.{stored}
use Rattle.points.specs.Points.{width}
use Rattle.orders.specs.Orders.{size, points_of}
use Rattle.orders.specs.declared.Order.TheVariants.{Point}
use Rattle.values.specs.Values as values
use Rattle.templates.specs.declared.Template.{Template}
use Rattle.templates.specs.declared.Judged as templates
use Rattle.bodies.specs.Body.{encode_body}
use Rattle.bodies.specs.Reading.{ruled, exceeds}
use Rattle.bodies.specs.declared.Refused.TheVariants as whose
use Rattle.bodies.specs.declared.Refused.{Refused}
use Rattle.refusals.specs.declared.Refusal.{Refusal}

-- a count that three bytes hold; and none but 0 where a point has no bytes, for such points leave no trace
unfoldable pub count_fits : (count w : ℕ) → Bool
count_fits count w = leb count 16777215 && (eqb count 0 || ltb 0 w)

-- the stages behind the template's, in their order: the count, the amount of values and the values, extended data, 82's limit
unfoldable pub judgement_by : (stored : List Bool) (limited : Bool) (maximum count : ℕ) (numbers : List ℤ) (wanted : Bool) → Result ⊤ Refusal
judgement_by stored limited maximum count numbers wanted =
    stages
    (require (count_fits count (width 1 stored)) (NotCompact quantity.Count)
    ∷ compactly (values.judgement_of 1 stored Point count numbers)
    ∷ require (not wanted) (NotCompact quantity.ExtendedData)
    ∷ require (not (exceeds limited maximum count)) Maximum
    ∷ [])

-- the bytes of a body that passes are put at the start where there is room for them; else the output stays as it was
unfoldable pub put_where : (bytes out : List ℕ) → Result ⊤ Refusal → Writing (Result ℕ Refused)
put_where bytes out (Ok _) = cond (leb (length bytes) (length out)) (writing (Ok (length bytes)) (puts out 0 bytes)) (writing (Err (whose.Body Room)) out)
put_where bytes out (Err refusal) = writing (Err (whose.Body refusal)) out

unfoldable pub write_ruled : (stored : List Bool) (limited : Bool) (maximum count : ℕ) (numbers : List ℤ) (wanted : Bool) (out : List ℕ) → Writing (Result ℕ Refused)
write_ruled stored limited maximum count numbers wanted out =
    put_where (encode_body stored (points_of Point count (size stored) numbers)) out (judgement_by stored limited maximum count numbers wanted)

-- the template's refusals come first
abbrev pub write_if : Result ⊤ Refusal → Template → (count : ℕ) (numbers : List ℤ) (wanted : Bool) (out : List ℕ) → Writing (Result ℕ Refused)
write_if (Ok _) t count numbers wanted out = write_ruled (stored t.description) t.limited t.maximum count numbers wanted out
write_if (Err refusal) t count numbers wanted out = writing (Err (whose.Template refusal)) out

unfoldable pub write_by : templates.Judged → (count : ℕ) (numbers : List ℤ) (wanted : Bool) (out : List ℕ) → Writing (Result ℕ Refused)
write_by j count numbers wanted out = write_if (ruled j) j.template count numbers wanted out
