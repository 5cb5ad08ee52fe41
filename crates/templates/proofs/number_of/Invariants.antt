-- `templates::number_of` meets its contract. The loop's invariant: the number is that of the bytes passed; it has room for another since there are three at most.
use mathlib.Core.Path.{◌≡◌}
use Rattle.formats.specs.Number.{value}
use Rattle.templates.proofs.number_of.Given as goal

abbrev pub invariant-loop-byte : goal.invariant-loop-byte
invariant-loop-byte l = l.number ≡ value l.byte-index l.content
