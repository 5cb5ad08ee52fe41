-- `description_writing::inclusion` meets its contract. The invariant: the bits so far, with those that are left behind them, are the whole number,
use mathlib.Core.Path.{◌≡◌, sym, ◌∙◌}
use mathlib.Core.Bool.{cond}
use mathlib.Core.List.{List, map}
use Prim.Native.Nat.{ℕ, ◌+◌, ◌*◌, ◌<◌}
use native.Mathlib.Omega.{arith}
use lib.ListN.{length, get_or, length-map}
use Rattle.formats.specs.Ascend.{ascend, ascend-binary, ascend-least}
use Rattle.formats.specs.Binary.{binary, binary-below}
use Rattle.channels.specs.declared.Descriptor.{Descriptor}
use Rattle.channels.specs.Descriptors.{absent}
use Rattle.description_writing.proofs.Laying.{flags, flags-next, flags-none}
use Rattle.description_writing.proofs.inclusion.Goals as goal
use Rattle.description_writing.proofs.inclusion.Goals.{At-loop-d, In-loop-d, Start}

sixteen : (s : Start) → length s.args.description.channels ≡ 16
sixteen s = s.well_formed.0.1.1.0.1.0.1

below : (ds : List Descriptor) → length ds ≡ 16 → binary (map (λ d. d.included) ds) < 65536
below ds h = simp (length-map, h) at (binary-below (map (λ d. d.included) ds))

pub loop-d-init : goal.loop-d-init
unfolding flags
loop-d-init c = sym (ascend-binary (map (λ d. d.included) c.args.description.channels))

-- with this channel's bit the number is no more than the whole
module _ (c : In-loop-d) where
  abbrev flagged : List Descriptor
  flagged = c.args.description.channels

  abbrev more : ℕ
  more = c.loop-d.bits * 2 + cond (get_or flagged c.loop-d.d-index absent).included 1 0

  next : binary (map (λ d. d.included) flagged) ≡ ascend more (flags flagged (c.loop-d.d-index + 1))
  next = c.loop-d.invariant ∙ flags-next flagged c.loop-d.bits c.loop-d.d-index (omega (arith, sixteen (goal.at.In-loop-d c).Start))

  within : more < 65536
  within = omega (arith, next, below flagged (sixteen (goal.at.In-loop-d c).Start), ascend-least more (flags flagged (c.loop-d.d-index + 1)))

pub overflow_mul-bits : goal.overflow_mul-bits
overflow_mul-bits c = omega (arith, within (goal.at.overflow_mul-bits c).In-loop-d)

pub overflow_add-bits : goal.overflow_add-bits
overflow_add-bits c = omega (arith, within (goal.at.overflow_add-bits c).In-loop-d, c.weight.ensures.0)

pub loop-d-preserved : goal.loop-d-preserved
loop-d-preserved c = rw c.weight.ensures.0 (next (goal.at.loop-d-preserved c).In-loop-d)

pub returns : goal.returns
returns c =
    let l = (goal.at.returns c).At-loop-d in
    let xs = l.args.description.channels in
    sym (l.loop-d.invariant ∙ flags-none xs l.loop-d.bits l.loop-d.d-index (omega (arith, sixteen (goal.at.At-loop-d l).Start)))
