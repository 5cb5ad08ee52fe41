-- What private functions answer: a channel's number, the numbers of a channel filled in, and those of all.
use Rattle.std.specs.Prelude.{◌≡◌, Bool, List, ℕ, ◌+◌, ◌*◌, ◌<◌, ℤ, pos, length, get_or}
use Rattle.formats.specs.Reader.{ok, read_at, times}
use Rattle.points.specs.Points.{sample, point}
use Rattle.orders.specs.Orders.{size, values_of}
use Rattle.orders.specs.declared.Order.{Order}

-- the number that is read of a channel at a place is this one
abbrev pub NumberAt : List ℕ → (channel at : ℕ) → ℤ → Type 0
NumberAt s channel at r = (v : ℤ) (end : ℕ) → read_at (sample 2 channel) s at ≡ ok v end → r ≡ v

-- the numbers of a channel, which stand a width apart among the bytes s, were filled in a step apart, and every other is as it was
pub record ChannelFilled (s : List ℕ) (channel start width from step count : ℕ) (before after : List ℤ) : Type 0 where
  pub many : length after ≡ length before
  pub numbers : (i : ℕ) → i < count → NumberAt s channel (start + i * width) (get_or after (from + i * step) (pos 0))
  pub others : (at : ℕ) → ((i : ℕ) → i < count → at ≡ from + i * step → ⊥) → get_or after at (pos 0) ≡ get_or before at (pos 0)

-- the numbers of the points that are read from a place on are these
abbrev pub PointsFilled : List ℕ → (start : ℕ) → List Bool → (count : ℕ) → Order → List ℤ → Type 0
PointsFilled s start stored count order values =
    (points : List (List ℤ)) (end : ℕ) → read_at (times count (point 2 stored)) s start ≡ ok points end → values ≡ values_of order (size stored) points
