-- Numbers in decimal: what digits say, and a sign before them.
use Rattle.std.specs.Prelude.{cond, List, [], ◌∷◌, ℕ, ◌+◌, ◌*◌, ◌-◌, drop, ℤ, pos, ◌-ℤ◌}
use Rattle.words.specs.Said.{begins_with}

-- the number that digits say, behind those that said a number already
unfoldable pub continued : ℕ → List ℕ → ℕ
continued number [] = number
continued number (byte ∷ bytes) = continued (number * 10 + (byte - 48)) bytes

-- the whole number that a word of digits says, perhaps with `-` before them
unfoldable pub whole : List ℕ → ℤ
whole word = cond (begins_with word 45) (pos 0 -ℤ pos (continued 0 (drop 1 word))) (pos (continued 0 word))
