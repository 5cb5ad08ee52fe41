-- `texts::Text::put_bytes` meets its contract. The invariant: what is left makes of the text what all bytes make of it from the start.
use mathlib.Core.Path.{◌≡◌}
use Prim.Native.Nat.{◌+◌}
use lib.ListN.{drop}
use Rattle.texts.specs.Gathered.{gathered, joins_all}
use Rattle.texts.proofs.Text.put_bytes.Given as goal

abbrev pub invariant-loop-i : goal.invariant-loop-i
invariant-loop-i l = joins_all (gathered l.initial.self-inside.bytes l.first) l.bytes ≡ joins_all (gathered l.self-inside.bytes (l.first + l.i)) (drop l.i l.bytes)
