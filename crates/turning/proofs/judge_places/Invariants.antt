-- `turning::judge_places` meets its contract. The invariant: of all places is told what is told of those left.
use mathlib.Core.Path.{◌≡◌}
use Prim.Native.Nat.{◌≤◌, ◌+◌}
use lib.ListN.{drop}
use Rattle.turning.specs.Parts.{misfit_in}
use Rattle.turning.proofs.judge_places.Given as goal

abbrev pub invariant-loop-channel : goal.invariant-loop-channel
invariant-loop-channel l =
    (l.index ≤ l.from + l.channel) × (misfit_in 0 l.from l.place-items ≡ misfit_in l.channel l.index (drop l.channel l.place-items))
