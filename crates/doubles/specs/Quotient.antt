-- A reading as a double: the raw number divided by the scaling value, once, each of them first made a double.
use Rattle.std.specs.Prelude.{◌≡◌, Bool, true, false, ℕ, ◌+◌, ◌*◌, ◌^◌, ℤ, pos, negsuc, ◌*ℤ◌, Float}
use Rattle.std.specs.Float.{binary64}
use Rattle.std.specs.Float.Ieee.{div, of_int, of_bits, to_bits}
use Rattle.doubles.specs.Double.{minus, Is}
use Rattle.doubles.specs.Nearest.{Nearest}

-- the 64 bits of a double
abbrev pub bits_of : Float → ℕ
bits_of x = to_bits binary64 x

-- ---- The operands

abbrev pub raw_double : ℤ → Float
raw_double raw = of_int binary64 raw

-- (1 + F/2048) · 2^(E-16): the exponent's bits are E - 16 + 1023, and F is the highest eleven digits
abbrev pub scale_bits : ℕ → ℕ → ℕ
scale_bits e f = (e + 1007) * 2 ^ 52 + f * 2 ^ 41

abbrev pub scale_double : ℕ → ℕ → Float
scale_double e f = of_bits binary64 (scale_bits e f)

-- ---- The division

unfoldable pub quotient : ℤ → ℕ → ℕ → Float
quotient raw e f = div binary64 (raw_double raw) (scale_double e f)

abbrev pub negative : ℤ → Bool
negative (pos n) = false
negative (negsuc n) = true

-- ---- What is promised of x, the reading of raw with E and F

pub record Quotient (raw : ℤ) (e f : ℕ) (x : Float) : Type 0 where
  -- it is one division of two doubles: these are raw and the scale, (2048 + F) · 2^E / 2^27, neither more nor less
  pub dividend : Is (bits_of (raw_double raw)) raw 1
  pub divisor : Is (bits_of (scale_double e f)) (pos ((2048 + f) * 2 ^ e)) (2 ^ 27)
  pub divided : x ≡ div binary64 (raw_double raw) (scale_double e f)
  -- for every F it is a number, nearer to the exact fraction than any other double, and has raw's sign
  pub nearest : Nearest (bits_of x) (raw *ℤ pos (2 ^ 27)) ((2048 + f) * 2 ^ e)
  pub sign : minus (bits_of x) ≡ negative raw
  -- where F is zero it is the exact fraction, raw · 2^16 / 2^E; where raw is zero it is plus zero, all of whose bits are zero
  pub exact : f ≡ 0 → Is (bits_of x) (raw *ℤ pos (2 ^ 16)) (2 ^ e)
  pub plus-zero : raw ≡ pos 0 → bits_of x ≡ 0
