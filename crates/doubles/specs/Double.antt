-- What number a double is, by its 64 bits and over whole numbers, as IEEE 754 has it in 3.4 (binary64):
--
--     bit 63     bits 62 to 52     bits 51 to 0
--     sign S     exponent x        digits t
--
--     x 0            (-1)^S · 2^-1022 · (0 + t/2^52)         which is  (-1)^S · t · 2^-1074
--     x 1 to 2046    (-1)^S · 2^(x - 1023) · (1 + t/2^52)    which is  (-1)^S · (2^52 + t) · 2^(x - 1) · 2^-1074
--     x 2047         an infinity, or not a number
--
-- So every number that a double is, is a whole number of 2^-1074, the least double above zero: its units.
use Rattle.std.specs.Prelude.{◌≡◌, Bool, cond, ℕ, zero, suc, ◌+◌, ◌*◌, ◌/◌, ◌%◌, ◌^◌, ◌<◌, leb, ℤ, pos, neg_ℤ, ◌*ℤ◌}

-- ---- The three fields

abbrev pub minus : ℕ → Bool
minus bits = leb (2 ^ 63) bits

abbrev pub exponent : ℕ → ℕ
exponent bits = bits % 2 ^ 63 / 2 ^ 52

abbrev pub digits : ℕ → ℕ
digits bits = bits % 2 ^ 52

-- ---- The units

-- their size, by exponent and digits: from the exponent 1 on a one stands before the digits, and each further exponent doubles
unfoldable pub size_by : ℕ → ℕ → ℕ
size_by zero t = t
size_by (suc x) t = (2 ^ 52 + t) * 2 ^ x

abbrev pub size : ℕ → ℕ
size bits = size_by (exponent bits) (digits bits)

-- a number by its sign and its size
abbrev pub signed : Bool → ℕ → ℤ
signed s n = cond s (neg_ℤ (pos n)) (pos n)

abbrev pub units : ℕ → ℤ
units bits = signed (minus bits) (size bits)

-- ---- The number

-- the double with these bits is the number n / d, for a d above 0: units / 2^1074 = n / d
pub record Is (bits : ℕ) (n : ℤ) (d : ℕ) : Type 0 where
  pub word : bits < 2 ^ 64
  pub number : exponent bits < 2047
  pub equal : units bits *ℤ pos d ≡ n *ℤ pos (2 ^ 1074)
