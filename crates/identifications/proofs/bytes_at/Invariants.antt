-- `identifications::bytes_at` meets its contract. The invariant: the whole is told as the bytes left are from here.
use mathlib.Core.Path.{◌≡◌}
use Prim.Native.Nat.{◌≤◌, ◌+◌}
use lib.ListN.{length, drop}
use Rattle.formats.specs.Told.{matched}
use Rattle.identifications.proofs.bytes_at.Given as goal

abbrev pub invariant-loop-i : goal.invariant-loop-i
invariant-loop-i l = (l.start + l.i ≤ length l.s) × (matched l.s l.start l.byte-items l.fault ≡ matched l.s (l.start + l.i) (drop l.i l.byte-items) l.fault)
