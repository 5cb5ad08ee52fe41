-- The nearest double: of all numbers that doubles are, the one nearest to a fraction, by its bits and over whole numbers.
use Rattle.std.specs.Prelude.{◌≢◌, ℕ, ◌^◌, ◌<◌, ℤ, pos, nat_abs, ◌*ℤ◌, ◌-ℤ◌}
use Rattle.doubles.specs.Double.{exponent, units}

-- how far the double with these bits is from n / d, counted in parts of which d · 2^1074 make one
abbrev pub distance : (bits : ℕ) (n : ℤ) (d : ℕ) → ℕ
distance bits n d = nat_abs (units bits *ℤ pos d -ℤ n *ℤ pos (2 ^ 1074))

-- The double with these bits is nearer to n / d than any other number that a double is.
pub record Nearest (bits : ℕ) (n : ℤ) (d : ℕ) : Type 0 where
  pub word : bits < 2 ^ 64
  pub number : exponent bits < 2047
  pub nearest : (other : ℕ) → other < 2 ^ 64 → exponent other < 2047 → units other ≢ units bits → distance bits n d < distance other n d
