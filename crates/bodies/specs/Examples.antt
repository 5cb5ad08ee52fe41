-- The examples of request L4's specification that read and write bodies: one table of questions and answers, and one claim.
use Rattle.std.specs.Prelude.{Bool, true, false, ℕ, ℤ, pos, negsuc, replicate, Result, Ok, Err, Some}
use mathlib.Core.List.{List, [], ◌∷◌, ◌++◌}
use Rattle.formats.specs.Lent.{Writing}
use Rattle.refusals.specs.Table.{number_of}
use Rattle.refusals.specs.declared.Quantity.TheVariants as quantity
use Rattle.refusals.specs.declared.Refusal.TheVariants.{Short, XOrY, Switch, LeftOver, Amount, Room, Tag, Maximum, NotCompact}
use Rattle.channels.specs.declared.Place.{Place}
use Rattle.channels.specs.declared.Place.TheVariants.{Absent, Constant, Number}
use Rattle.point_places.specs.Places.{nowhere}
use Rattle.templates.specs.Reading.{template_of}
use Rattle.bodies.specs.Reading.{judged_by, places_by}
use Rattle.bodies.specs.Writing.{write_by}
use Rattle.bodies.specs.declared.Refused.TheVariants as whose
use Rattle.bodies.specs.declared.Refused.{Refused}

-- ---- Questions and answers

-- what is asked of a template: what some bytes are as its body, what a point of them is, and what becomes of values that are to be written where there is room for some bytes
pub data Question : Type 0 where
  body : (template bytes : List ℕ) → Question
  point : (template bytes : List ℕ) (index : ℕ) → Question
  values : (template : List ℕ) (count : ℕ) (numbers : List ℤ) (wanted : Bool) (room : ℕ) → Question

-- a refusal has its number too, which is 0 where nothing was refused
pub data Answer : Type 0 where
  judged : (number : ℕ) → Result ℕ Refused → Answer
  places : List Place → Answer
  put : (number : ℕ) → Result ℕ Refused → (bytes : List ℕ) → Answer

pub record Example : Type 0 where
  pub question : Question
  pub answer : Answer

infix 20 ◌is◌
abbrev ◌is◌ : Question → Answer → Example
q is a = record { question = q; answer = a }

-- ---- What is answered

abbrev verdict_number : Result ℕ Refused → ℕ
verdict_number (Ok count) = 0
verdict_number (Err (whose.Template refusal)) = number_of refusal
verdict_number (Err (whose.Body refusal)) = number_of refusal

abbrev written_number : Result ℕ Refused → ℕ
written_number (Ok length) = 0
written_number (Err (whose.Template refusal)) = number_of refusal
written_number (Err (whose.Body refusal)) = number_of refusal

-- what the output holds before, and where nothing is put
abbrev untouched : (room : ℕ) → List ℕ
untouched room = replicate room 0x55

abbrev body_judged : Result ℕ Refused → Answer
body_judged v = judged (verdict_number v) v

abbrev body_put : Writing (Result ℕ Refused) → Answer
body_put w = put (written_number w.answer) w.answer w.bytes

unfoldable pub answered : Question → Answer
answered (body template bytes) = body_judged (judged_by (template_of template) bytes).verdict
answered (point template bytes index) = places (places_by index (template_of template) bytes)
answered (values template count numbers wanted room) = body_put (write_by (template_of template) count numbers wanted (untouched room))

-- ---- The table

-- X and Y; the same, both constant; with S; with a maximum of one point; and annex C.2.1, with a constant DT
abbrev xy : List ℕ
xy = 0xB1 ∷ 0x06 ∷ 0x81 ∷ 0x04 ∷ 0xC0 ∷ 0x00 ∷ 0x00 ∷ 0x00 ∷ []

abbrev steady : List ℕ
steady = 0xB1 ∷ 0x06 ∷ 0x81 ∷ 0x04 ∷ 0xC0 ∷ 0x00 ∷ 0x04 ∷ 0x04 ∷ []

abbrev switched : List ℕ
switched = 0xB1 ∷ 0x07 ∷ 0x81 ∷ 0x05 ∷ 0xC0 ∷ 0x20 ∷ 0x00 ∷ 0x00 ∷ 0x00 ∷ []

abbrev single : List ℕ
single = 0xB1 ∷ 0x09 ∷ 0x81 ∷ 0x04 ∷ 0xC0 ∷ 0x00 ∷ 0x00 ∷ 0x00 ∷ 0x82 ∷ 0x01 ∷ 0x01 ∷ []

abbrev annex : List ℕ
annex = 0xB1 ∷ 0x09 ∷ 0x81 ∷ 0x07 ∷ 0xC0 ∷ 0x80 ∷ 0x00 ∷ 0x00 ∷ 0x84 ∷ 0xB4 ∷ 0x80 ∷ []

-- the two printed samples of annex C.2, and one as places
abbrev printed : List ℕ
printed = 0xAC ∷ 0xF2 ∷ 0xA9 ∷ 0xF2 ∷ []

abbrev sample : (x : ℤ) → List Place
sample x = Number x ∷ Number (pos 114) ∷ replicate 6 Absent ++ Constant ∷ replicate 7 Absent

abbrev pub table : List Example
table =
    (body xy [] is judged 0 (Ok 0))
    ∷ (body xy (0x7F ∷ 0x80 ∷ []) is judged 0 (Ok 1))
    ∷ (body xy (0x7F ∷ 0x80 ∷ 0x80 ∷ []) is judged 1 (Err (whose.Body Short)))
    ∷ (body annex printed is judged 0 (Ok 2))
    ∷ (body annex (0xAC ∷ 0xF2 ∷ 0xA9 ∷ []) is judged 1 (Err (whose.Body Short)))
    ∷ (body steady [] is judged 0 (Ok 0))
    ∷ (body steady (0x00 ∷ []) is judged 9 (Err (whose.Body (LeftOver 0))))
    ∷ (body switched (0x80 ∷ 0x80 ∷ 0x01 ∷ 0x80 ∷ 0x80 ∷ 0x00 ∷ []) is judged 0 (Ok 2))
    ∷ (body switched (0x80 ∷ 0x80 ∷ 0x02 ∷ []) is judged 8 (Err (whose.Body (Switch 2))))
    ∷ (body switched (0x80 ∷ 0x80 ∷ 0x80 ∷ []) is judged 8 (Err (whose.Body (Switch 2))))
    ∷ (body switched (0x80 ∷ 0x80 ∷ 0x00 ∷ 0x80 ∷ 0x80 ∷ 0xFF ∷ []) is judged 8 (Err (whose.Body (Switch 5))))
    ∷ (body switched (0x80 ∷ 0x80 ∷ 0x00 ∷ 0x80 ∷ 0x80 ∷ []) is judged 1 (Err (whose.Body Short)))
    ∷ (body (0xB1 ∷ 0x08 ∷ 0x81 ∷ 0x06 ∷ 0xC0 ∷ 0x30 ∷ 0x00 ∷ 0x00 ∷ 0x00 ∷ 0x00 ∷ []) (0x80 ∷ 0x80 ∷ 0x02 ∷ []) is judged 8 (Err (whose.Body (Switch 2))))
    ∷ (body single (0x80 ∷ 0x80 ∷ []) is judged 0 (Ok 1))
    ∷ (body single (0x80 ∷ 0x80 ∷ 0x80 ∷ 0x80 ∷ []) is judged 18 (Err (whose.Body Maximum)))
    ∷ (body single (0x80 ∷ 0x80 ∷ 0x80 ∷ []) is judged 1 (Err (whose.Body Short)))
    ∷ (body (0xB1 ∷ 0x09 ∷ 0x81 ∷ 0x04 ∷ 0xC0 ∷ 0x00 ∷ 0x00 ∷ 0x00 ∷ 0x82 ∷ 0x01 ∷ 0x00 ∷ []) [] is judged 0 (Ok 0))
    ∷ (body (0xB1 ∷ 0x09 ∷ 0x81 ∷ 0x04 ∷ 0xC0 ∷ 0x00 ∷ 0x00 ∷ 0x00 ∷ 0x82 ∷ 0x01 ∷ 0x00 ∷ []) (0x80 ∷ 0x80 ∷ []) is judged 18 (Err (whose.Body Maximum)))
    ∷ (body (0xB1 ∷ 0x0A ∷ 0x81 ∷ 0x05 ∷ 0xC0 ∷ 0x20 ∷ 0x00 ∷ 0x00 ∷ 0x00 ∷ 0x82 ∷ 0x01 ∷ 0x01 ∷ []) (0x80 ∷ 0x80 ∷ 0x00 ∷ 0x80 ∷ 0x80 ∷ 0x02 ∷ []) is judged 8 (Err (whose.Body (Switch 5))))
    ∷ (body [] (0x80 ∷ 0x80 ∷ []) is judged 1 (Err (whose.Template Short)))
    ∷ (body (0xB1 ∷ 0x00 ∷ []) (0x80 ∷ 0x80 ∷ []) is judged 16 (Err (whose.Template Tag)))
    ∷ (body (0xB1 ∷ 0x03 ∷ 0x82 ∷ 0x01 ∷ 0x64 ∷ []) [] is judged 16 (Err (whose.Template Tag)))
    ∷ (body (0xB1 ∷ 0x03 ∷ 0x81 ∷ 0x01 ∷ 0x40 ∷ []) [] is judged 4 (Err (whose.Template (XOrY (Some 4)))))
    ∷ (body (0xB1 ∷ 0x06 ∷ 0x81 ∷ 0x04 ∷ 0xC0 ∷ 0x00 ∷ 0x00 ∷ 0x00 ∷ 0x00 ∷ []) [] is judged 9 (Err (whose.Template (LeftOver 8))))
    ∷ (body (0xB1 ∷ 0x04 ∷ 0x82 ∷ 0x02 ∷ 0x00 ∷ 0x64 ∷ []) [] is judged 18 (Err (whose.Template Maximum)))
    ∷ (point annex printed 0 is places (sample (pos 44)))
    ∷ (point annex printed 1 is places (sample (pos 41)))
    ∷ (point annex printed 2 is places nowhere)
    ∷ (values xy 1 (negsuc 0 ∷ pos 0 ∷ []) false 2 is put 0 (Ok 2) (0x7F ∷ 0x80 ∷ []))
    ∷ (values xy 1 (negsuc 127 ∷ pos 127 ∷ []) false 9 is put 0 (Ok 2) (0x00 ∷ 0xFF ∷ untouched 7))
    ∷ (values xy 0 [] false 0 is put 0 (Ok 0) [])
    ∷ (values xy 1 (negsuc 0 ∷ pos 0 ∷ []) false 1 is put 15 (Err (whose.Body Room)) (untouched 1))
    ∷ (values xy 1 (negsuc 0 ∷ []) false 0 is put 13 (Err (whose.Body Amount)) [])
    ∷ (values xy 1 (pos 128 ∷ pos 999 ∷ []) false 0 is put 21 (Err (whose.Body (NotCompact (quantity.Value 0 0)))) [])
    ∷ (values xy 2 (pos 0 ∷ pos 0 ∷ pos 0 ∷ negsuc 128 ∷ []) false 0 is put 21 (Err (whose.Body (NotCompact (quantity.Value 3 1)))) [])
    ∷ (values xy 16777216 [] false 0 is put 21 (Err (whose.Body (NotCompact quantity.Count))) [])
    ∷ (values xy 16777215 [] false 0 is put 13 (Err (whose.Body Amount)) [])
    ∷ (values xy 1 (pos 999 ∷ []) false 0 is put 13 (Err (whose.Body Amount)) [])
    ∷ (values xy 1 (pos 0 ∷ pos 0 ∷ []) true 0 is put 21 (Err (whose.Body (NotCompact quantity.ExtendedData))) [])
    ∷ (values xy 1 (pos 0 ∷ pos 200 ∷ []) true 0 is put 21 (Err (whose.Body (NotCompact (quantity.Value 1 1)))) [])
    ∷ (values steady 0 [] false 0 is put 0 (Ok 0) [])
    ∷ (values steady 1 [] false 0 is put 21 (Err (whose.Body (NotCompact quantity.Count))) [])
    ∷ (values steady 1 (pos 5 ∷ []) false 0 is put 21 (Err (whose.Body (NotCompact quantity.Count))) [])
    ∷ (values switched 1 (pos 0 ∷ pos 0 ∷ pos 2 ∷ []) false 9 is put 21 (Err (whose.Body (NotCompact (quantity.Value 2 10)))) (untouched 9))
    ∷ (values switched 1 (pos 0 ∷ pos 0 ∷ pos 1 ∷ []) false 9 is put 0 (Ok 3) (0x80 ∷ 0x80 ∷ 0x01 ∷ untouched 6))
    ∷ (values single 2 (pos 0 ∷ pos 0 ∷ pos 0 ∷ pos 0 ∷ []) false 0 is put 18 (Err (whose.Body Maximum)) [])
    ∷ (values single 2 (pos 0 ∷ pos 0 ∷ pos 0 ∷ pos 0 ∷ []) true 0 is put 21 (Err (whose.Body (NotCompact quantity.ExtendedData))) [])
    ∷ (values single 2 (pos 0 ∷ pos 0 ∷ pos 0 ∷ []) false 9 is put 13 (Err (whose.Body Amount)) (untouched 9))
    ∷ (values single 1 (pos 0 ∷ pos 0 ∷ []) false 2 is put 0 (Ok 2) (0x80 ∷ 0x80 ∷ []))
    ∷ (values (0xB1 ∷ 0x00 ∷ []) 0 [] false 0 is put 16 (Err (whose.Template Tag)) [])
    ∷ (values [] 99999999 [] false 0 is put 1 (Err (whose.Template Short)) [])
    ∷ []

-- an example as the functions answer it
abbrev pub found : Example → Example
found e = e.question is answered e.question
