-- `description_writing::put_descriptor` meets its contract: the descriptor byte and the five attributes are laid one behind the other.
use mathlib.Core.Path.{◌≡◌, refl, sym, ap, ◌∙◌}
use mathlib.Core.Bool.{Bool, false}
use mathlib.Core.List.{List, [], ◌∷◌, ◌++◌}
use Prim.Native.Nat.{ℕ, ◌+◌}
use native.Mathlib.Omega.{arith}
use borrow.Author.Rules.{rules}
use lib.ListN.{set}
use mir.Syntax.{w32}
use mir.Val.{to_z, of_z}
use mir.ValLaws.{to_z-of_z}
use Rattle.formats.specs.Laid.{Room, Laid, laid-byte, laid-length, room-first}
use Rattle.channels.specs.Channel.{signed_of, width_of}
use Rattle.channels.specs.Stored.{offset, value_of}
use Rattle.channels.specs.declared.Attribute.{Attribute}
use Rattle.descriptions.specs.Description.{descriptor_byte, encode_attribute, encode_descriptor}
use Rattle.description_writing.proofs.Laying.{FitsEach, fits_each, attribute-ready, attribute-laid}
use Rattle.description_writing.proofs.put_descriptor.Goals as goal
use Rattle.description_writing.proofs.put_descriptor.Goals.{After-descriptor_byte, After-put_attribute, After-put_attribute-at, After-put_attribute-at-2, After-put_attribute-at-3, After-put_attribute-at-4, Start}

-- what is to be laid, and how far it goes with each attribute
module _ (s : Start) where
  abbrev bytes : Bool → Attribute → List ℕ
  bytes signed a = encode_attribute (width_of s.args.format) signed a

  abbrev sign : Bool
  sign = signed_of s.requires.0

  abbrev to-scaling : List ℕ
  to-scaling = descriptor_byte s.args.d ∷ encode_attribute 2 false s.args.d.scaling

  abbrev to-minimum : List ℕ
  to-minimum = to-scaling ++ bytes sign s.args.d.minimum

  abbrev to-maximum : List ℕ
  to-maximum = to-minimum ++ bytes sign s.args.d.maximum

  abbrev to-mean : List ℕ
  to-mean = to-maximum ++ bytes sign s.args.d.mean

  abbrev to-deviation : List ℕ
  to-deviation = to-mean ++ bytes false s.args.d.deviation

  -- there is room for these bytes; they make this of the slice, and end here
  abbrev Free : List ℕ → Type 0
  Free b = Room s.args.out.now s.args.start b

  abbrev Laying : List ℕ → List ℕ → ℕ → Type 0
  Laying b t end = Laid s.args.out.now s.args.start b t end

  room-deviation : Free to-deviation
  unfolding encode_descriptor
  room-deviation = s.requires.3

  room-mean : Free to-mean
  room-mean = room-first to-mean _ room-deviation

  room-maximum : Free to-maximum
  room-maximum = room-first to-maximum _ room-mean

  room-minimum : Free to-minimum
  room-minimum = room-first to-minimum _ room-maximum

  room-scaling : Free to-scaling
  room-scaling = room-first to-scaling _ room-minimum

  each : FitsEach (width_of s.args.format) s.requires.0 s.args.d
  each = fits_each _ _ _ s.requires.2

pub bounds-out-start : goal.bounds-out-start
bounds-out-start c = omega (arith, (room-scaling (goal.at.bounds-out-start c).Start).enough)

-- ---- What is laid when each is

module _ (c : After-descriptor_byte) where
  abbrev start : Start
  start = (goal.at.After-descriptor_byte c).Start

  least : to_z w32 (of_z w32 c.value_of-least.result) ≡ value_of (width_of start.args.format) (sign start) 0
  least =
      to_z-of_z w32 c.value_of-least.result (search rules)
      ∙ c.value_of-least.ensures
      ∙ ap (λ t. value_of (width_of start.args.format) t 0) start.requires.1

  byte-laid : Laying start (descriptor_byte start.args.d ∷ []) (set start.args.out.now start.args.start c.descriptor_byte.result) (start.args.start + 1)
  byte-laid = laid-byte start.args.out.now start.args.start c.descriptor_byte.ensures

abbrev from-scaling : After-put_attribute-at → After-descriptor_byte
from-scaling c = (goal.at.After-put_attribute-at c).After-descriptor_byte

scaling-laid : (c : After-put_attribute-at) → Laying (start (from-scaling c)) (to-scaling (start (from-scaling c))) c.put_attribute-at.new.out c.put_attribute-at.result
unfolding value_of offset
scaling-laid c = attribute-laid (byte-laid (from-scaling c)) 2 false refl _ c.put_attribute-at.ensures

abbrev from-minimum : After-put_attribute-at-2 → After-descriptor_byte
from-minimum c = from-scaling (goal.at.After-put_attribute-at-2 c).After-put_attribute-at

minimum-laid : (c : After-put_attribute-at-2) → Laying (start (from-minimum c)) (to-minimum (start (from-minimum c))) c.put_attribute-at-2.new.out c.put_attribute-at-2.result
minimum-laid c = attribute-laid (scaling-laid (goal.at.After-put_attribute-at-2 c).After-put_attribute-at) _ _ (least (from-minimum c)) _ c.put_attribute-at-2.ensures

abbrev from-maximum : After-put_attribute-at-3 → After-descriptor_byte
from-maximum c = from-minimum (goal.at.After-put_attribute-at-3 c).After-put_attribute-at-2

maximum-laid : (c : After-put_attribute-at-3) → Laying (start (from-maximum c)) (to-maximum (start (from-maximum c))) c.put_attribute-at-3.new.out c.put_attribute-at-3.result
maximum-laid c = attribute-laid (minimum-laid (goal.at.After-put_attribute-at-3 c).After-put_attribute-at-2) _ _ (least (from-maximum c)) _ c.put_attribute-at-3.ensures

abbrev from-mean : After-put_attribute-at-4 → After-descriptor_byte
from-mean c = from-maximum (goal.at.After-put_attribute-at-4 c).After-put_attribute-at-3

mean-laid : (c : After-put_attribute-at-4) → Laying (start (from-mean c)) (to-mean (start (from-mean c))) c.put_attribute-at-4.new.out c.put_attribute-at-4.result
mean-laid c = attribute-laid (maximum-laid (goal.at.After-put_attribute-at-4 c).After-put_attribute-at-3) _ _ (least (from-mean c)) _ c.put_attribute-at-4.ensures

abbrev from-deviation : After-put_attribute → After-descriptor_byte
from-deviation c = from-mean (goal.at.After-put_attribute c).After-put_attribute-at-4

deviation-laid : (c : After-put_attribute) → Laying (start (from-deviation c)) (to-deviation (start (from-deviation c))) c.put_attribute.new.out c.put_attribute.result
unfolding value_of offset
deviation-laid c = attribute-laid (mean-laid (goal.at.After-put_attribute c).After-put_attribute-at-4) _ false refl _ c.put_attribute.ensures

-- ---- So each finds its room

pub put_attribute-at-requires : goal.put_attribute-at-requires
unfolding value_of offset
put_attribute-at-requires c =
    let b = (goal.at.put_attribute-at-requires c).After-descriptor_byte in
    attribute-ready (byte-laid b) 2 false refl _ (each (start b)).scaling (room-scaling (start b))

pub put_attribute-at-requires-2 : goal.put_attribute-at-requires-2
put_attribute-at-requires-2 c =
    let p = (goal.at.put_attribute-at-requires-2 c).After-put_attribute-at in
    let s = start (from-scaling p) in
    attribute-ready (scaling-laid p) _ _ (least (from-scaling p)) _ (each s).minimum (room-minimum s)

pub put_attribute-at-requires-3 : goal.put_attribute-at-requires-3
put_attribute-at-requires-3 c =
    let p = (goal.at.put_attribute-at-requires-3 c).After-put_attribute-at-2 in
    let s = start (from-minimum p) in
    attribute-ready (minimum-laid p) _ _ (least (from-minimum p)) _ (each s).maximum (room-maximum s)

pub put_attribute-at-requires-4 : goal.put_attribute-at-requires-4
put_attribute-at-requires-4 c =
    let p = (goal.at.put_attribute-at-requires-4 c).After-put_attribute-at-3 in
    let s = start (from-maximum p) in
    attribute-ready (maximum-laid p) _ _ (least (from-maximum p)) _ (each s).mean (room-mean s)

pub put_attribute-requires : goal.put_attribute-requires
unfolding value_of offset
put_attribute-requires c =
    let p = (goal.at.put_attribute-requires c).After-put_attribute-at-4 in
    let s = start (from-mean p) in
    attribute-ready (mean-laid p) _ false refl _ (each s).deviation (room-deviation s)

pub shape_of-out : goal.shape_of-out
shape_of-out c = laid-length (deviation-laid (goal.at.shape_of-out c).After-put_attribute)

-- whichever channel has the sign
pub returns : goal.returns
unfolding encode_descriptor
returns c channel e =
    let p = (goal.at.returns c).After-put_attribute in
    rw (sym e ∙ (start (from-deviation p)).requires.1) (deviation-laid p)
