-- What code lays down for a description: the bytes of an attribute, and of the channels that are left.
use mathlib.Core.Path.{◌≡◌, refl, ◌∙◌}
use mathlib.Core.Bool.{Bool, true, false, cond, ◌&&◌}
use mathlib.Core.List.{List, [], ◌∷◌, ◌++◌, map}
use Prim.Native.Nat.{ℕ, zero, suc, ◌+◌, ◌*◌, ◌≤◌, ◌<◌}
use native.Mathlib.Numerals.{add-one}
use native.Mathlib.Omega.{arith}
use lib.Dec.{T}
use lib.IntN.{ℤ}
use lib.ListN.{length, drop, get_or, drop_of_length-le, length-append}
use lib.Seq.{drop-cons}
use Rattle.formats.specs.Ascend.{ascend}
use Rattle.formats.specs.Laid.{Room, Laid, laid_more, room-rest}
use Rattle.formats.specs.Number.{digits, length_digits}
use Rattle.formats.specs.Writes.{encode_each}
use Rattle.channels.specs.Channel.{channels, signed_of}
use Rattle.channels.specs.Stored.{value_of, stored_of, fits}
use Rattle.channels.specs.declared.Attribute.{Attribute}
use Rattle.channels.specs.declared.Descriptor.{Descriptor}
use Rattle.channels.specs.Descriptors.{absent}
use Rattle.descriptions.specs.Description.{encode_attribute, encode_descriptor, encode_channel, fits_attribute, fits_descriptor}

-- ---- An attribute

module _ (w : ℕ) (signed : Bool) (a : Attribute) where
  pub attribute-none : a.given ≡ false → encode_attribute w signed a ≡ []
  unfolding encode_attribute
  attribute-none e = rw e

  pub attribute-given : a.given ≡ true → encode_attribute w signed a ≡ digits w (stored_of w signed a.number)
  unfolding encode_attribute
  attribute-given e = rw e

  pub fits-given : a.given ≡ true → T (fits_attribute w signed a) → T (fits w signed a.number)
  unfolding fits_attribute
  fits-given e h = rw e at h

  pub attribute-length : length (encode_attribute w signed a) ≡ cond a.given w 0
  unfolding encode_attribute
  attribute-length = go a.given
    where
      go : (t : Bool) → length (cond t (digits w (stored_of w signed a.number)) []) ≡ cond t w 0
      go true = length_digits w (stored_of w signed a.number)
      go false = refl

-- it is laid behind what was laid, from the least number of its kind
module _ {s : List ℕ} {start : ℕ} {b t : List ℕ} {at : ℕ} (l : Laid s start b t at) (w : ℕ) (signed : Bool) {least : ℤ} (e : least ≡ value_of w signed 0) (a : Attribute) where
  pub attribute-ready : T (fits_attribute w signed a) → Room s start (b ++ encode_attribute w signed a)
      → (sign : Bool) × (least ≡ value_of w sign 0) × T (fits_attribute w sign a) × Room t at (encode_attribute w sign a)
  attribute-ready f r = (signed, e, f, room-rest l r)

  pub attribute-laid : {u : List ℕ} {end : ℕ} → ((sign : Bool) → least ≡ value_of w sign 0 → Laid t at (encode_attribute w sign a) u end)
      → Laid s start (b ++ encode_attribute w signed a) u end
  attribute-laid k = laid_more l (k signed e)

-- ---- A channel

all-five : (a b c d e : Bool) → T (a && b && c && d && e) → T a × T b × T c × T d × T e
all-five true true true true e h = (tt, tt, tt, tt, h)
all-five true true true false e h = absurd h
all-five true true false d e h = absurd h
all-five true false c d e h = absurd h
all-five false b c d e h = absurd h

module _ (w channel : ℕ) (d : Descriptor) where
  pub record FitsEach : Type 0 where
    pub scaling : T (fits_attribute 2 false d.scaling)
    pub minimum : T (fits_attribute w (signed_of channel) d.minimum)
    pub maximum : T (fits_attribute w (signed_of channel) d.maximum)
    pub mean : T (fits_attribute w (signed_of channel) d.mean)
    pub deviation : T (fits_attribute w false d.deviation)

  pub fits_each : T (fits_descriptor w channel d) → FitsEach
  unfolding fits_descriptor
  fits_each h =
      let f = all-five
      (fits_attribute 2 false d.scaling)
      (fits_attribute w (signed_of channel) d.minimum)
      (fits_attribute w (signed_of channel) d.maximum)
      (fits_attribute w (signed_of channel) d.mean)
      (fits_attribute w false d.deviation)
      h in
      record { scaling = f.0; minimum = f.1; maximum = f.2; mean = f.3; deviation = f.4 }

  pub channel-none : d.included ≡ false → encode_channel w channel d ≡ []
  unfolding encode_channel
  channel-none e = rw e

  pub channel-included : d.included ≡ true → encode_channel w channel d ≡ encode_descriptor w channel d
  unfolding encode_channel
  channel-included e = rw e

  -- the descriptor byte, and what each attribute has
  pub descriptor-length : length (encode_descriptor w channel d)
      ≡ 1
      + cond d.scaling.given 2 0
      + cond d.minimum.given w 0
      + cond d.maximum.given w 0
      + cond d.mean.given w 0
      + cond d.deviation.given w 0
  unfolding encode_descriptor
  descriptor-length = simp (length-append, attribute-length) (omega arith)

-- ---- The channels that are left

abbrev up_from : ℕ → ℕ → List ℕ
up_from zero i = []
up_from (suc n) i = i ∷ up_from n (suc i)

nth_up : (n i k : ℕ) → k < n → get_or (up_from n i) k 0 ≡ i + k
nth_up zero i k h = absurd (omega arith)
nth_up (suc n) i zero h = omega arith
nth_up (suc n) i (suc k) h = nth_up n (suc i) k (omega arith) ∙ omega arith

nth-channel : (i : ℕ) → i < 16 → get_or channels i 0 ≡ i
nth-channel i h = nth_up 16 0 i h ∙ omega arith

module _ (w : ℕ) (ds : List Descriptor) where
  unfoldable pub left : ℕ → List ℕ
  left i = encode_each (encode_channel w) (drop i channels) (drop i ds)

  pub left-next : length ds ≡ 16 → (i : ℕ) → i < 16 → left i ≡ encode_channel w i (get_or ds i absent) ++ left (i + 1)
  unfolding left encode_each
  left-next e i h = rw (add-one i, drop-cons channels i 0 h, drop-cons ds i absent (omega arith), nth-channel i h)

  pub left-none : (i : ℕ) → 16 ≤ i → left i ≡ []
  unfolding left encode_each
  left-none i h = rw (drop_of_length-le channels {i = i} h)

-- the inclusion bits that are left
module _ (ds : List Descriptor) where
  unfoldable pub flags : ℕ → List Bool
  flags i = map (λ d. d.included) (drop i ds)

  pub flags-next : (n i : ℕ) → i < length ds → ascend n (flags i) ≡ ascend (n * 2 + cond (get_or ds i absent).included 1 0) (flags (i + 1))
  unfolding flags ascend
  flags-next n i h = rw (add-one i, drop-cons ds i absent h)

  pub flags-none : (n i : ℕ) → length ds ≤ i → ascend n (flags i) ≡ n
  unfolding flags ascend
  flags-none n i h = rw (drop_of_length-le ds {i = i} h)
