-- `formats::put` meets its contract. The invariant: what is left to copy makes of these bytes what all that there is room for makes of those at the start.
use Prim.Native.Nat.{◌-◌}
use lib.ListN.{length, take}
use Rattle.formats.specs.Laid.{Copied}
use Rattle.formats.proofs.put.Given as goal

abbrev pub invariant-loop-i : goal.invariant-loop-i
invariant-loop-i l = Copied l.initial.out l.start (take (length l.initial.out - l.start) l.bytes) l.out l.i
