-- How many channels are left to count when some are counted: one fewer where the next is stored, and as many where it is not.
use mathlib.Core.Path.{◌≡◌}
use mathlib.Core.Bool.{Bool, true, false}
use mathlib.Core.List.{List}
use Prim.Native.Nat.{ℕ, ◌+◌, ◌≤◌, ◌<◌}
use native.Mathlib.Omega.{arith}
use lib.ListN.{length, get_or}
use Rattle.orders.specs.Parts.{many}
use Rattle.points.proofs.Samples.{stored-in, stored-out, stored-none}

module _ (stored : List Bool) where
  module _ (i : ℕ) (h : i < length stored) where
    pub many-out : get_or stored i false ≡ false → many stored i ≡ many stored (i + 1)
    unfolding many
    many-out e = rw (stored-out stored i h e)

    pub many-in : get_or stored i false ≡ true → many stored i ≡ 1 + many stored (i + 1)
    unfolding many
    many-in e = rw (stored-in stored i h e) (omega arith)

  pub many-none : (i : ℕ) → length stored ≤ i → many stored i ≡ 0
  unfolding many
  many-none i h = rw (stored-none stored i h)
