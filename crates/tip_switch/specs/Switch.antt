-- S in a sample point: one byte that holds the number 0 or 1 (7.4.2, as decided: docs/DECISIONS.md).
-- This file alone says how the tip switch is stored.
use Rattle.std.specs.Prelude.{◌≡◌, refl, Bool, true, false, cond, ◌&&◌, ℕ, ◌<◌, T, leb, ℤ, pos, negsuc, nat_abs, Option, Some, None}
use Rattle.std.proofs.Common.{arith, ltb→lt, lt→ltb, leb-true, le-leb}
use Rattle.std.specs.Int.Signed.{non_neg, lt_z}
use Rattle.formats.specs.Bytes.{impossible}

-- the bytes that are admitted, one of them, and the state that one stands for
abbrev pub admitted : ℕ → Bool
admitted byte = leb byte 1

abbrev pub admitted_byte : ℕ
admitted_byte = 0x00

unfoldable pub state_of : ℕ → ℤ
state_of byte = pos byte

-- the numbers that are states, and the byte for one
unfoldable pub is_state : ℤ → Bool
is_state v = non_neg v && lt_z v (pos 2)

unfoldable pub byte_of : ℤ → ℕ
byte_of v = nat_abs v

-- what code answers
unfoldable pub state_if : ℕ → Option ℤ
state_if byte = cond (admitted byte) (Some (state_of byte)) None

unfoldable pub byte_if : ℤ → Option ℕ
byte_if v = cond (is_state v) (Some (byte_of v)) None

-- what an answer says of the byte
pub state-found : (b : ℕ) {v : ℤ} → state_if b ≡ Some v → (admitted b ≡ true) × (state_of b ≡ v)
unfolding state_if
state-found b {v} e = go (admitted b) refl e
  where
    go : (t : Bool) → admitted b ≡ t → cond t (Some (state_of b)) None ≡ Some v → (admitted b ≡ true) × (state_of b ≡ v)
    go true h q = (h, cc)
    go false h q = impossible (cc)

pub state-refused : (b : ℕ) → state_if b ≡ None → admitted b ≡ false
unfolding state_if
state-refused b e = go (admitted b) refl e
  where
    go : (t : Bool) → admitted b ≡ t → cond t (Some (state_of b)) None ≡ None → admitted b ≡ false
    go true h q = impossible (cc)
    go false h q = h

-- ---- Both ways

pub byte-state : (b : ℕ) → admitted b ≡ true → byte_of (state_of b) ≡ b
unfolding byte_of state_of
byte-state b h = refl

pub state-is : (b : ℕ) → admitted b ≡ true → T (is_state (state_of b))
unfolding is_state state_of
state-is b h = lt→ltb b 2 (omega (arith, leb-true b 1 h))

pub state-byte : (v : ℤ) → T (is_state v) → ((byte_of v < 256) × (admitted (byte_of v) ≡ true)) × (state_of (byte_of v) ≡ v)
unfolding is_state state_of byte_of
state-byte (pos n) h = let e : n < 2 = ltb→lt n 2 h in ((omega arith, le-leb n 1 (omega arith)), refl)
state-byte (negsuc n) h = absurd h
