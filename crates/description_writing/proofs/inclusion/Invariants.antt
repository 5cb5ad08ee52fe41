-- `description_writing::inclusion` meets its contract. The invariant: the bits so far, with those that are left behind them, are the whole number,
-- which has sixteen bits.
use mathlib.Core.Path.{◌≡◌}
use mathlib.Core.List.{map}
use Rattle.formats.specs.Ascend.{ascend}
use Rattle.formats.specs.Binary.{binary}
use Rattle.description_writing.proofs.Laying.{flags}
use Rattle.description_writing.proofs.inclusion.Given as goal

abbrev pub invariant-loop-d : goal.invariant-loop-d
invariant-loop-d l = (binary (map (λ d. d.included) l.fn.description.channels) ≡ ascend l.bits (flags l.fn.description.channels l.d-index))
