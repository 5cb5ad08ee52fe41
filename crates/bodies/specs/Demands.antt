-- What is claimed of bodies, said of what the functions promise (request L4). Nothing is claimed of beginnings: a body is one of longer bodies.
use Rattle.std.specs.Prelude.{◌≡◌, ◌↔◌, Bool, false, List, [], ◌++◌, ℕ, ◌≤◌, ◌<◌, ℤ, length, take, drop, Ok, Err}
use Rattle.formats.specs.Bytes.{Bytes}
use Rattle.formats.specs.Reader.{Answer, ok, short, bad}
use Rattle.formats.specs.Lent.{writing}
use Rattle.refusals.specs.declared.Refusal.TheVariants.{Short, LeftOver}
use Rattle.channels.specs.Descriptors.{stored}
use Rattle.channels.specs.declared.Description.{Description}
use Rattle.points.specs.Points.{width}
use Rattle.orders.specs.Orders.{size, points_of, values_of}
use Rattle.orders.specs.declared.Order.TheVariants.{Point}
use Rattle.templates.specs.Reading.{template_of}
use Rattle.templates.specs.declared.Template.{Template}
use Rattle.bodies.specs.Body.{encode_body, ValidBody, IsBody}
use Rattle.bodies.specs.Reading.{ruled, exceeds, read, judged_by}
use Rattle.bodies.specs.Writing.{write_by}
use Rattle.bodies.specs.declared.Refused.TheVariants as whose

-- what a template's bytes say, its description, and which channels it stores
abbrev pub said : (t : List ℕ) → Template
said t = (template_of t).template

abbrev pub description_of : (t : List ℕ) → Description
description_of t = (said t).description

abbrev pub flags : (t : List ℕ) → List Bool
flags t = stored (description_of t)

-- the points that were read, none where reading failed
abbrev pub points_read : Answer (List (List ℤ)) → List (List ℤ)
points_read (ok points n) = points
points_read short = []
points_read (bad k p) = []

-- ---- Reading and writing together

-- a body that was written is read back by its template, with its count and its points: so 18 can't come; and only its bytes were written
abbrev pub ReadsBack : Type 0
ReadsBack = (t : List ℕ) (count : ℕ) (numbers : List ℤ) (wanted : Bool) (out : List ℕ) (n : ℕ) (after : List ℕ)
    → writing (Ok n) after ≡ write_by (template_of t) count numbers wanted out
    → (judged_by (template_of t) (take n after) ≡ record { verdict = (Ok count); description = description_of t })
    × ((read (said t) (take n after) ≡ ok (points_of Point count (size (flags t)) numbers) n) × (drop n after ≡ drop n out))

-- and a body that was read is written again, byte for byte, unless it has more points than a record can have
abbrev pub WritesAgain : Type 0
WritesAgain = (t b : List ℕ) → Bytes b → (count : ℕ) → (judged_by (template_of t) b).verdict ≡ Ok count → count < 16777216
    → (out : List ℕ) → length b ≤ length out
    → writing (Ok (length b)) (b ++ drop (length b) out) ≡ write_by (template_of t) count (values_of Point (size (flags t)) (points_read (read (said t) b))) false out

-- ---- One reading

-- by one template no bytes are two bodies
abbrev pub OneReading : Type 0
OneReading = (stored : List Bool) (points others : List (List ℤ)) → ValidBody stored points → ValidBody stored others
    → encode_body stored points ≡ encode_body stored others → points ≡ others

-- ---- What the verdicts mean, where the template is no reason to refuse

-- a body within 82's limit
pub record Bodied (t b : List ℕ) (count : ℕ) : Type 0 where
  pub body : IsBody (flags t) b
  pub many : length body.value ≡ count
  pub allowed : exceeds (said t).limited (said t).maximum count ≡ false

abbrev pub JudgesBodies : Type 0
JudgesBodies = (t b : List ℕ) → Bytes b → ruled (template_of t) ≡ Ok tt → (count : ℕ) → ((judged_by (template_of t) b).verdict ≡ Ok count) ↔ Bodied t b count

-- the bytes end inside a point that further bytes would finish
pub record EndsInside (stored : List Bool) (b : List ℕ) : Type 0 where
  pub rest : List ℕ
  pub missing : 0 < length rest
  pub inside : length rest < width 1 stored
  pub body : IsBody stored (b ++ rest)

abbrev pub JudgesShort : Type 0
JudgesShort = (t b : List ℕ) → Bytes b → ruled (template_of t) ≡ Ok tt → ((judged_by (template_of t) b).verdict ≡ (Err (whose.Body Short))) ↔ EndsInside (flags t) b

-- bytes that nothing can make a body of: there are any, and nothing is stored
abbrev pub JudgesLeftOver : Type 0
JudgesLeftOver = (t b : List ℕ) (place : ℕ) → Bytes b → ruled (template_of t) ≡ Ok tt
    → ((judged_by (template_of t) b).verdict ≡ (Err (whose.Body (LeftOver place)))) ↔ ((width 1 (flags t) ≡ 0) × ((0 < length b) × (place ≡ 0)))
