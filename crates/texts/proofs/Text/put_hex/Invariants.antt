-- `texts::Text::put_hex` meets its contract. The invariant: the bytes that are left make of the text what all make of it from the start.
use mathlib.Core.Path.{◌≡◌}
use lib.ListN.{drop}
use Rattle.texts.specs.Gathered.{joins_all}
use Rattle.texts.specs.Digits.{hex_pairs, hex_word}
use Rattle.texts.proofs.Text.put_hex.Given as goal

abbrev pub invariant-loop-byte : goal.invariant-loop-byte
invariant-loop-byte l = joins_all l.initial.self (hex_word l.bytes) ≡ joins_all l.self (hex_pairs (drop l.byte-index l.bytes))
