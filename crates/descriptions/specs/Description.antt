-- A channel description: which channels a record has, and what it says of each (7.3.4; 8.2.2 for a template).
-- `w` is the width of a minimum, a maximum, a mean and a deviation: two bytes in a record, one in a template.
use Rattle.std.specs.Prelude.{◌≡◌, Bool, true, false, not, cond, ◌&&◌, ◌||◌, List, [], ◌∷◌, ◌++◌, ℕ, suc, ◌+◌, ◌-◌, ◌*◌, T, eqb, nat_abs, length, get_or}
use Rattle.formats.specs.Reader.{Test, Reader, done, one, any, each, ◌>>=◌}
use Rattle.formats.specs.Number.{number, digits}
use Rattle.formats.specs.Writes.{encode_each}
use Rattle.channels.specs.Channel.{X, Y, channels, signed_of, width_of}
use Rattle.channels.specs.Descriptors.{no_attribute, absent, included}
use Rattle.channels.specs.Stored.{value_of, stored_of, fits}
use Rattle.channels.specs.declared.Attribute.{Attribute}
use Rattle.channels.specs.declared.Descriptor.{Descriptor}
use Rattle.channels.specs.declared.Description.{Description}
use Rattle.channels.specs.declared.Format.{Format}
use Rattle.formats.specs.Binary.{bit, binary}

-- ---- What is read

-- the first inclusion byte has the bits of X and Y, or refusal 4 (7.3.4.1)
abbrev pub has_xy : Test
has_xy = record { holds = λ b. bit 8 b && bit 7 b; fault = 4; sample = 0xC0; fair = tt }

-- the low bit of a descriptor byte is zero, or refusal 5 (7.3.4.2)
abbrev pub reserved : Test
reserved = record { holds = λ b. not (bit 1 b); fault = 5; sample = 0; fair = tt }

-- an attribute: w bytes where its flag is set, else none (7.3.4.3 to 7.3.4.5)
unfoldable pub attribute : (w : ℕ) (signed flag : Bool) → Reader Attribute
attribute w signed true = do
  n ← number w
  done (record { given = true; number = value_of w signed n })
attribute w signed false = done no_attribute

-- what a descriptor byte announces: the attributes of its bits 8 to 4, and the two flags of its bits 3 and 2 (7.3.4.2)
abbrev pub announced : (w channel b : ℕ) → Reader Descriptor
announced w channel b = do
  scaling ← attribute 2 false (bit 8 b)
  minimum ← attribute w (signed_of channel) (bit 7 b)
  maximum ← attribute w (signed_of channel) (bit 6 b)
  mean ← attribute w (signed_of channel) (bit 5 b)
  deviation ← attribute w false (bit 4 b)
  done (record {
    included = true;
    scaling = scaling;
    minimum = minimum;
    maximum = maximum;
    mean = mean;
    deviation = deviation;
    constant = bit 3 b;
    detrended = bit 2 b;
  })

-- a channel's descriptor byte, and what it announces
unfoldable pub descriptor : (w channel : ℕ) → Reader Descriptor
descriptor w channel = do
  b ← one reserved
  announced w channel b

-- channel 0 has the top bit of the sixteen inclusion bits, channel 15 the lowest (7.3.4.1)
unfoldable pub includes : (inclusion channel : ℕ) → Bool
includes inclusion channel = bit (16 - channel) inclusion

-- a channel's descriptor where it is included, else nothing
unfoldable pub channel_of : (w inclusion channel : ℕ) → Reader Descriptor
channel_of w inclusion channel = cond (includes inclusion channel) (descriptor w channel) (done absent)

-- the two inclusion bytes, and the included channels in order (7.3.4.1, 7.3.4.2); what is read of a format has its mark
unfoldable pub description : Format → Reader Description
description format = do
  first ← one has_xy
  second ← one any
  ds ← each channels (channel_of (width_of format) (first * 256 + second))
  done (record { channels = ds; mark = format })

-- ---- How it is written

-- an attribute that is given has w bytes
unfoldable pub encode_attribute : (w : ℕ) (signed : Bool) → Attribute → List ℕ
encode_attribute w signed a = cond a.given (digits w (stored_of w signed a.number)) []

-- the seven flags, from bit 8 down, and a zero (7.3.4.2)
unfoldable pub descriptor_byte : Descriptor → ℕ
descriptor_byte d =
    binary
    (d.scaling.given
    ∷ d.minimum.given
    ∷ d.maximum.given
    ∷ d.mean.given
    ∷ d.deviation.given
    ∷ d.constant
    ∷ d.detrended
    ∷ false
    ∷ [])

-- the descriptor byte and the attributes, in their order
unfoldable pub encode_descriptor : (w channel : ℕ) → Descriptor → List ℕ
encode_descriptor w channel d =
    descriptor_byte d
    ∷ encode_attribute 2 false d.scaling
    ++ encode_attribute w (signed_of channel) d.minimum
    ++ encode_attribute w (signed_of channel) d.maximum
    ++ encode_attribute w (signed_of channel) d.mean
    ++ encode_attribute w false d.deviation

-- a channel that is not included has no bytes
unfoldable pub encode_channel : (w channel : ℕ) → Descriptor → List ℕ
encode_channel w channel d = cond d.included (encode_descriptor w channel d) []

-- the inclusion bits in two bytes, and the channels in order
unfoldable pub encode_description : (w : ℕ) → Description → List ℕ
encode_description w d = digits 2 (binary (included d)) ++ encode_each (encode_channel w) channels d.channels

-- ---- Which descriptions can be written

-- X and Y are included (refusal 4)
unfoldable pub includes_xy : Description → Bool
includes_xy d = (get_or d.channels X absent).included && (get_or d.channels Y absent).included

-- an attribute that is not given holds zero
unfoldable pub tidy_attribute : Attribute → Bool
tidy_attribute a = a.given || eqb (nat_abs a.number) 0

-- none of the seven flags is set
unfoldable pub flagless : Descriptor → Bool
flagless d =
    not
    (d.scaling.given
    || d.minimum.given
    || d.maximum.given
    || d.mean.given
    || d.deviation.given
    || d.constant
    || d.detrended)

-- a channel that is not included has no flag set, and no attribute holds a number that is not given
unfoldable pub tidy_descriptor : Descriptor → Bool
tidy_descriptor d =
    (d.included || flagless d)
    && (tidy_attribute d.scaling
    && tidy_attribute d.minimum
    && tidy_attribute d.maximum
    && tidy_attribute d.mean
    && tidy_attribute d.deviation)

-- a number that is given is in its range
unfoldable pub fits_attribute : (w : ℕ) (signed : Bool) → Attribute → Bool
fits_attribute w signed a = not a.given || fits w signed a.number

-- minimum, maximum and mean have the channel's sign; scaling and deviation have none
unfoldable pub fits_descriptor : (w channel : ℕ) → Descriptor → Bool
fits_descriptor w channel d =
    fits_attribute 2 false d.scaling
    && fits_attribute w (signed_of channel) d.minimum
    && fits_attribute w (signed_of channel) d.maximum
    && fits_attribute w (signed_of channel) d.mean
    && fits_attribute w false d.deviation

-- a test of each channel and its descriptor, from channel i on
unfoldable pub every : (ℕ → Descriptor → Bool) → ℕ → List Descriptor → Bool
every test i [] = true
every test i (d ∷ ds) = test i d && every test (suc i) ds

-- document 01's tidy: each descriptor is (refusal 11)
unfoldable pub neat : Description → Bool
neat d = every (λ i. tidy_descriptor) 0 d.channels

-- each number that is given is in its range (refusal 12)
unfoldable pub all_fit : (w : ℕ) → Description → Bool
all_fit w d = every (fits_descriptor w) 0 d.channels

-- request L4's tidy: that, and each given number fits the mark
unfoldable pub tidy : Description → Bool
tidy d = neat d && all_fit (width_of d.mark) d

-- the descriptions that have an encoding in a format
pub record Valid (format : Format) (d : Description) : Type 0 where
  pub sixteen : length d.channels ≡ 16
  pub xy : T (includes_xy d)
  pub marked : d.mark ≡ format
  pub tidy : T (tidy d)
