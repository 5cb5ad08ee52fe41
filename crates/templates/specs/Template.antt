-- The compact parameter template (8.2): how one is written, and which can be.
use Rattle.std.specs.Prelude.{◌≡◌, Bool, true, false, cond, List, [], ◌∷◌, ◌++◌, ℕ, ◌<◌, ltb, length}
use Rattle.formats.specs.Number.{digits}
use Rattle.channels.specs.declared.Description.{Description}
use Rattle.channels.specs.declared.Format.TheVariants.{Compact}
use Rattle.descriptions.specs.Description.{encode_description, Valid}
use Rattle.descriptions.specs.Read.{nothing}
use Rattle.templates.specs.declared.Template.{Template}

-- a field is its tag, the length of its content in one byte, and its content (8.2.1)
abbrev pub field : (tag : ℕ) (content : List ℕ) → List ℕ
field tag content = tag ∷ length content ∷ content

-- a number below 16,777,216 in the fewest bytes that hold it
unfoldable pub fewest : ℕ → ℕ
fewest n = cond (ltb n 256) 1 (cond (ltb n 65536) 2 3)

unfoldable pub shortest : ℕ → List ℕ
shortest n = digits (fewest n) n

-- 81, where channels are described: a minimum, a maximum, a mean and a deviation have one byte, a scaling value two (8.2.2)
unfoldable pub encode_described : (described : Bool) → Description → List ℕ
encode_described true d = field 0x81 (encode_description 1 d)
encode_described false d = []

-- 82, where the number of points is limited (8.2.3)
unfoldable pub encode_limited : (limited : Bool) (maximum : ℕ) → List ℕ
encode_limited true n = field 0x82 (shortest n)
encode_limited false n = []

-- B1 holds the two, in this order
unfoldable pub encode : Template → List ℕ
encode t = field 0xB1 (encode_described t.described t.description ++ encode_limited t.limited t.maximum)

-- what can be written as 81 and as 82, and the zeros that stand for one that is absent
abbrev pub Describes : (described : Bool) → Description → Type 0
Describes true d = Valid Compact d
Describes false d = d ≡ nothing Compact

abbrev pub Limits : (limited : Bool) (maximum : ℕ) → Type 0
Limits true n = n < 16777216
Limits false n = n ≡ 0

pub record ValidTemplate (t : Template) : Type 0 where
  pub description : Describes t.described t.description
  pub maximum : Limits t.limited t.maximum

-- the bytes that are a template
pub record IsTemplate (b : List ℕ) : Type 0 where
  pub template : Template
  pub valid : ValidTemplate template
  pub written : b ≡ encode template
