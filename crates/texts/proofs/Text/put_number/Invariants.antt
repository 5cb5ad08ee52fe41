-- `texts::Text::put_number` meets its contract: the last digit is put first. The invariant: the digits that are left make of the text what all make of it.
use mathlib.Core.Path.{◌≡◌}
use Prim.Native.Nat.{◌-◌}
use Rattle.formats.specs.Put.{puts}
use Rattle.texts.specs.Digits.{last_digits}
use Rattle.texts.proofs.Text.put_number.Given as goal

abbrev pub invariant-loop-at : goal.invariant-loop-at
invariant-loop-at l = puts l.initial.self-inside.bytes l.first (last_digits (l.end - l.first) l.number) ≡ puts l.self-inside.bytes l.first (last_digits (l.at - l.first) l.rest)
