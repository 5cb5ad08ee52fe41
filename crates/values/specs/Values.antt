-- The values of many points as a writer is lent them, in one of two orders: whether they fit, and what is put.
use Rattle.std.specs.Prelude.{Bool, cond, ◌&&◌, ℕ, zero, suc, ◌+◌, ◌*◌, eqb, leb, ℤ, pos, length, get_or, Result, Option, Some, None, ⊤}
use mathlib.Core.List.{List, [], ◌∷◌, ◌++◌, flat_map}
use Rattle.formats.specs.Number.{digits}
use Rattle.formats.specs.Put.{puts}
use Rattle.formats.specs.Lent.{Writing, writing}
use Rattle.formats.specs.Writes.{encode_each}
use Rattle.refusals.specs.Stages.{require, or_else}
use Rattle.refusals.specs.Ranges.{Ranged, ◌fits_if◌, first_misfit}
use Rattle.refusals.specs.declared.Quantity.TheVariants.{Value}
use Rattle.refusals.specs.declared.Refusal.TheVariants.{Amount}
use Rattle.channels.specs.Channel.{S, signed_of}
use Rattle.channels.specs.Stored.{stored_if}
use Rattle.tip_switch.specs.Switch.{byte_if}
use Rattle.points.specs.Points.{channels, sample_size, width, fits_sample}
use Rattle.orders.specs.Orders.{size, step, stride, points_of}
use Rattle.orders.specs.declared.Order.{Order}
use Rattle.refusals.specs.declared.Refusal.{Refusal}

-- ---- Whether they fit: whichever the order they are lent in, they are judged in point order

-- the sample values of a point, each by its index among the values and its channel; and those of n points
unfoldable pub samples_in : (w stride : ℕ) → List ℕ → List ℤ → (from : ℕ) → List Ranged
samples_in w stride [] values from = []
samples_in w stride (channel ∷ l) values from =
    (Value from channel fits_if fits_sample w channel (get_or values from (pos 0))) ∷ samples_in w stride l values (from + stride)

unfoldable pub samples_from : (w stride : ℕ) → List ℕ → List ℤ → (step n from : ℕ) → List Ranged
samples_from w stride l values step zero from = []
samples_from w stride l values step (suc n) from = samples_in w stride l values from ++ samples_from w stride l values step n (from + step)

unfoldable pub samples : (w : ℕ) → List Bool → Order → (count : ℕ) → List ℤ → List Ranged
samples w stored order count values = samples_from w (stride order count) (channels stored) values (step order (size stored)) count 0

-- that their amount is another comes first; then the first that doesn't fit its channel is named
unfoldable pub judgement_of : (w : ℕ) → List Bool → Order → (count : ℕ) → List ℤ → Result ⊤ Refusal
judgement_of w stored order count values = or_else (require (eqb (length values) (count * size stored)) Amount) (first_misfit (samples w stored order count values))

-- ---- What is put

-- what is stored for a number of a channel, if anything is; and then its bytes, which are zeros where nothing is
unfoldable pub stored_sample : (w channel : ℕ) → ℤ → Option ℕ
stored_sample w channel v = cond (eqb channel S) (byte_if v) (stored_if w (signed_of channel) v)

abbrev pub number_in : Option ℕ → ℕ
number_in (Some n) = n
number_in None = 0

unfoldable pub sample_bytes : (w channel : ℕ) → ℤ → List ℕ
sample_bytes w channel v = digits (sample_size w channel) (number_in (stored_sample w channel v))

unfoldable pub bytes_of : (w : ℕ) → List Bool → List (List ℤ) → List ℕ
bytes_of w stored points = flat_map (encode_each (sample_bytes w) (channels stored)) points

-- all points are put, and where they end is answered; nothing is put where the values have another amount or there is no room for all
unfoldable pub put_of : (w : ℕ) → List Bool → Order → (count : ℕ) → List ℤ → (out : List ℕ) (at : ℕ) → Writing ℕ
put_of w stored order count values out at =
    cond
    (eqb (length values) (count * size stored) && leb (at + count * width w stored) (length out))
    (writing (at + count * width w stored) (puts out at (bytes_of w stored (points_of order count (size stored) values))))
    (writing at out)
