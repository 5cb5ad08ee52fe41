-- `templates::number_of` meets its contract. The loop's invariant: the number is that of the bytes passed; it has room for another since there are three at most.
use mathlib.Core.Path.{◌≡◌, refl, ◌∙◌}
use Prim.Native.Nat.{◌<◌}
use native.Mathlib.Numerals.{add-one}
use native.Mathlib.Omega.{arith}
use lib.ListN.{length}
use Rattle.formats.specs.Number.{value}
use Rattle.templates.specs.EncodedLaws.{at-most-three}
use Rattle.templates.proofs.Parts.{room-for-more}
use Rattle.templates.proofs.number_of.Goals as goal
use Rattle.templates.proofs.number_of.Goals.{In-loop-byte}

-- what is read so far
small : (c : In-loop-byte) → c.loop-byte.number < 65536
small c =
    let s = c.args.content.now in
    rw c.loop-byte.invariant (room-for-more s (λ i. (c.type_inv.content i).fits) c.loop-byte.byte-index (omega (arith, at-most-three s c.requires, c.loop-byte-test.true)))

pub loop-byte-init : goal.loop-byte-init
unfolding value
loop-byte-init c = refl

pub overflow_mul-number : goal.overflow_mul-number
overflow_mul-number c = record { fits = omega (arith, small c) }

pub overflow_add-number : goal.overflow_add-number
overflow_add-number c =
    let b = (c.type_inv.content c.loop-byte.byte-index).fits in record { fits = omega (arith, small (goal.at.overflow_add-number c).In-loop-byte, c.from.ensures, b) }

pub loop-byte-preserved : goal.loop-byte-preserved
unfolding value
loop-byte-preserved c = let l = c.loop-byte in rw (c.from.ensures, add-one l.byte-index, l.invariant)

pub returns : goal.returns
returns c =
    let l = c.loop-byte in
    let e : l.byte-index ≡ length c.args.content.now = omega arith in
    l.invariant ∙ rw e
