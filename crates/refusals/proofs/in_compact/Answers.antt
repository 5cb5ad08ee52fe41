-- `refusals::in_compact` meets its contract: the arm of 12 is its row, and every other refusal's row is itself.
use Rattle.std.proofs.Common.{◌≡◌, ◌≢◌, refl}
use Rattle.refusals.specs.Table.{in_compact}
use Rattle.refusals.specs.declared.Refusal.{Refusal}
use Rattle.refusals.specs.declared.Refusal.TheVariants.{Short, Identifier, Version, XOrY, ReservedBit, ReservedByte, OpeningBits, Switch, LeftOver, NoPoint, Untidy, OutOfRange, Amount, ExtendedSize, Room, Tag, Length, Maximum, Uncalibrated, NotCompact}
use Rattle.refusals.specs.declared.Quantity.{Quantity}
use Rattle.refusals.proofs.in_compact.Goals as goal

itself : (r : Refusal) → ((x : Quantity) → r ≢ OutOfRange x) → r ≡ in_compact r
unfolding in_compact
itself Short h = refl
itself (Identifier place) h = refl
itself (Version place) h = refl
itself (XOrY place) h = refl
itself (ReservedBit place) h = refl
itself (ReservedByte place) h = refl
itself (OpeningBits place) h = refl
itself (Switch place) h = refl
itself (LeftOver place) h = refl
itself NoPoint h = refl
itself Untidy h = refl
itself (OutOfRange quantity) h = absurd (h quantity refl)
itself Amount h = refl
itself ExtendedSize h = refl
itself Room h = refl
itself Tag h = refl
itself Length h = refl
itself Maximum h = refl
itself Uncalibrated h = refl
itself (NotCompact quantity) h = refl

pub returns-in-OutOfRange : goal.returns-in-OutOfRange
unfolding in_compact
returns-in-OutOfRange c = rw c.in-OutOfRange.is

pub returns : goal.returns
returns c = itself _ c.in_default.not-OutOfRange
