-- The sixteen channels, by their place in the order of 7.3.4.1.
use Rattle.std.specs.Prelude.{◌≡◌, refl, Bool, true, false, List, [], ◌∷◌, ℕ, zero, suc, ◌+◌, ◌<◌, get_or}
use Rattle.std.proofs.Common.{◌∙◌, zero-add, arith}
use Rattle.formats.specs.Bytes.{impossible}
use Rattle.channels.specs.declared.Format.{Format}
use Rattle.channels.specs.declared.Format.TheVariants.{Full, Compact}

-- their places
abbrev pub channels : List ℕ
channels = 0 ∷ 1 ∷ 2 ∷ 3 ∷ 4 ∷ 5 ∷ 6 ∷ 7 ∷ 8 ∷ 9 ∷ 10 ∷ 11 ∷ 12 ∷ 13 ∷ 14 ∷ 15 ∷ []

-- n of them, from channel i on
unfoldable pub from : ℕ → ℕ → List ℕ
from i zero = []
from i (suc n) = i ∷ from (suc i) n

-- each stands at its own place
nth-from : (i n k : ℕ) → k < n → get_or (from i n) k 0 ≡ i + k
unfolding from
nth-from i zero k h = absurd (omega arith)
nth-from i (suc n) zero h = omega arith
nth-from i (suc n) (suc k) h = nth-from (suc i) n k (omega arith) ∙ omega arith

pub nth-channel : (channel : ℕ) → channel < 16 → get_or channels channel 0 ≡ channel
unfolding from
nth-channel channel h = nth-from 0 16 channel h ∙ zero-add channel

-- the three that a rule names: each record has X and Y, and S is stored in a way of its own
abbrev pub X : ℕ
X = 0

abbrev pub Y : ℕ
Y = 1

abbrev pub S : ℕ
S = 10

-- whether each is signed (7.3.4.4)
abbrev pub signs : List Bool
signs =
    true  -- 0 X, position
    ∷ true  -- 1 Y
    ∷ false  -- 2 Z
    ∷ true  -- 3 VX, velocity
    ∷ true  -- 4 VY
    ∷ true  -- 5 AX, acceleration
    ∷ true  -- 6 AY
    ∷ false  -- 7 T, time
    ∷ false  -- 8 DT, time since the point before
    ∷ false  -- 9 F, force
    ∷ false  -- 10 S, tip switch
    ∷ true  -- 11 TX, tilt
    ∷ true  -- 12 TY
    ∷ false  -- 13 Az, azimuth
    ∷ false  -- 14 El, elevation
    ∷ false  -- 15 R, rotation
    ∷ []

-- the sign of a channel, and none past the table
unfoldable pub signed_of : ℕ → Bool
signed_of channel = get_or signs channel false

-- whether two formats are one
unfoldable pub is_same : Format → Format → Bool
is_same Full Full = true
is_same Full Compact = false
is_same Compact Full = false
is_same Compact Compact = true

pub same-is : (format other : Format) → is_same format other ≡ true → format ≡ other
unfolding is_same
same-is Full Full e = refl
same-is Full Compact e = impossible (cc)
same-is Compact Full e = impossible (cc)
same-is Compact Compact e = refl

pub is_same_lem : (format other : Format) → format ≡ other → is_same format other ≡ true
unfolding is_same
is_same_lem Full Full e = refl
is_same_lem Full Compact e = impossible (cc)
is_same_lem Compact Full e = impossible (cc)
is_same_lem Compact Compact e = refl

-- how many bytes a number has: two in the full format (7.3.4.4, 7.4.2), one in the compact one (8.2.2.4)
abbrev pub width_of : Format → ℕ
width_of Full = 2
width_of Compact = 1
