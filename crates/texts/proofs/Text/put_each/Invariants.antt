-- `texts::Text::put_each` meets its contract. The invariant: what is left makes of the text what all bytes make of it from the start.
use mathlib.Core.Path.{◌≡◌}
use lib.ListN.{drop}
use Rattle.texts.specs.Gathered.{joins_all}
use Rattle.texts.proofs.Text.put_each.Given as goal

abbrev pub invariant-loop-byte : goal.invariant-loop-byte
invariant-loop-byte l = joins_all l.initial.self l.bytes ≡ joins_all l.self (drop l.byte-index l.bytes)
