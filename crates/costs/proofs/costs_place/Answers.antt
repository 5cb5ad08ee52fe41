-- `costs::costs_place` meets its contract: the reading of the place that is handed in.
use mathlib.Core.Path.{◌≡◌, ap, ◌∙◌}
use Prim.Native.Nat.{ℕ}
use lib.IntN.{ℤ}
use mir.ValLaws.{to_z-of_z}
use mir.Syntax.{w32}
use borrow.Author.Tests.{ne_eqb}
use Rattle.channels.specs.declared.Place.TheVariants.{Absent, Constant, Number}
use Rattle.costs.specs.Handed.{place_from, handed_reading}
use Rattle.costs.proofs.costs_place.Goals as goal

-- which place is handed in, by its kind
from-two : (kind : ℕ) (value : ℤ) → kind ≡ 2 → place_from kind value ≡ Number value
unfolding place_from
from-two kind value e = rw e

from_one : (kind : ℕ) (value : ℤ) → kind ≡ 1 → place_from kind value ≡ Constant
unfolding place_from
from_one kind value e = rw e

from-other : (kind : ℕ) (value : ℤ) → (kind ≡ 2 → ⊥) → (kind ≡ 1 → ⊥) → place_from kind value ≡ Absent
unfolding place_from
from-other kind value e g = rw (ne_eqb kind 2 e, ne_eqb kind 1 g)

pub returns-then-kind-eq2 : goal.returns-then-kind-eq2
returns-then-kind-eq2 c =
    rw (from-two c.args.kind c.args.value c.if-kind-eq2.true)
    (c.read_of_place.ensures ∙ ap handed_reading (rw (to_z-of_z w32 _ c.ranges.value, to_z-of_z w32 _ c.ranges.number) at c.place_thousandths.ensures))

pub returns-then-kind-eq1 : goal.returns-then-kind-eq1
returns-then-kind-eq1 c =
    rw (from_one c.args.kind c.args.value c.if-kind-eq1.true)
    (c.read_of_place-then-kind-eq1.ensures ∙ ap handed_reading (rw (to_z-of_z w32 _ c.ranges.number) at c.place_thousandths-then-kind-eq1.ensures))

pub returns : goal.returns
returns c =
    rw (from-other c.args.kind c.args.value c.if-kind-eq2.false c.if-kind-eq1.false)
    (c.read_of_place-2.ensures ∙ ap handed_reading (rw (to_z-of_z w32 _ c.ranges.number) at c.place_thousandths-2.ensures))
