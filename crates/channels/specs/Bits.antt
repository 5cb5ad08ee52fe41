-- Sixteen bits that say something of each channel: the highest of X, the lowest of R (7.3.4.1).
use Rattle.std.specs.Prelude.{ℕ, ◌*◌, ◌%◌, ◌^◌}

-- each moved up by some channels, so that a later channel has the highest; those of the channels before it are gone
unfoldable pub moved : (channels bits : ℕ) → ℕ
moved channels bits = bits * 2 ^ channels % 2 ^ 16
