-- The rules that the bytes of a channel description may break: 4 and 5 of the numbered refusals.
-- Each is said by the byte b that breaks it and by all bytes before b, of which `front` stand before the description.
use Rattle.std.specs.Prelude.{◌≡◌, true, false, ◌&&◌, List, ◌∷◌, ◌++◌, ℕ, ◌+◌, ◌*◌, ◌<◌, T, take}
use Rattle.formats.specs.Writes.{Each, encode_each}
use Rattle.channels.specs.Channel.{channels}
use Rattle.channels.specs.declared.Descriptor.{Descriptor}
use Rattle.formats.specs.Binary.{bit}
use Rattle.descriptions.specs.Description.{includes, encode_channel, tidy_descriptor, fits_descriptor}

-- 4: b is the first inclusion byte, and lacks the bit of X or of Y (7.3.4.1)
pub record LacksXY (front before : List ℕ) (b : ℕ) : Type 0 where
  pub written : before ≡ front
  pub lacking : (bit 8 b && bit 7 b) ≡ false

-- what a channel's bytes say of it: it is included as the inclusion bytes have it, tidy, and its numbers are in their ranges
pub record Entry (w inclusion channel : ℕ) (d : Descriptor) : Type 0 where
  pub included : d.included ≡ includes inclusion channel
  pub neat : T (tidy_descriptor d)
  pub ranges : T (fits_descriptor w channel d)

-- 5: b is the descriptor byte of an included channel, and its low bit is set (7.3.4.2);
-- before it stand the inclusion bytes and the descriptors of the channels before this one
pub record LowBitSet (w : ℕ) (front before : List ℕ) (b : ℕ) : Type 0 where
  pub first : ℕ
  pub second : ℕ
  pub bytes : (first < 256) × (second < 256)
  pub xy : (bit 8 first && bit 7 first) ≡ true
  pub channel : ℕ
  pub within : channel < 16
  pub included : includes (first * 256 + second) channel ≡ true
  pub descriptors : List Descriptor
  pub described : Each (Entry w (first * 256 + second)) (take channel channels) descriptors
  pub written : before ≡ front ++ first ∷ second ∷ encode_each (encode_channel w) (take channel channels) descriptors
  pub set : bit 1 b ≡ true

-- the byte b, behind the bytes `before`, breaks the rule of this number
pub data Breaks (w : ℕ) (front before : List ℕ) (b : ℕ) : ℕ → Type 0 where
  x_or_y : LacksXY front before b → Breaks w front before b 4
  descriptor_bit : LowBitSet w front before b → Breaks w front before b 5
