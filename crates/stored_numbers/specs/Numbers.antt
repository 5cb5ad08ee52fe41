-- A stored number among bytes: it has w of them, the high one first.
use Rattle.std.specs.Prelude.{cond, List, ℕ, ◌+◌, leb, length, drop}
use Rattle.formats.specs.Number.{digits, value}
use Rattle.formats.specs.Put.{puts}
use Rattle.formats.specs.Lent.{Writing, writing}

-- the number that stands at a place, and 0 where its bytes are not all there
unfoldable pub number_at : (w : ℕ) → List ℕ → (at : ℕ) → ℕ
number_at w s at = cond (leb (at + w) (length s)) (value w (drop at s)) 0

-- a number is put at a place, and its end is answered; where there is no room for all of it nothing is put, and the place itself is answered
unfoldable pub put_number : (w number : ℕ) → (out : List ℕ) (at : ℕ) → Writing ℕ
put_number w number out at = cond (leb (at + w) (length out)) (writing (at + w) (puts out at (digits w number))) (writing at out)
