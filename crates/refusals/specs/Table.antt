-- Document 01's table of refusals, 1 to 18, and the requests' rows, 20 of L3 and 21 of L4: the number of each, the place that it names, and the refusal that a reader's failure is.
use Rattle.std.specs.Prelude.{List, [], ◌∷◌, ℕ, ◌-◌, get_or, Option, Some, None}
use Rattle.formats.specs.declared.Failure.{Failure}
use Rattle.formats.specs.declared.Failure.TheVariants as failure
use Rattle.refusals.specs.declared.Refusal.{Refusal}
use Rattle.refusals.specs.declared.Refusal.TheVariants.{Short, Identifier, Version, XOrY, ReservedBit, ReservedByte, OpeningBits, Switch, LeftOver, NoPoint, Untidy, OutOfRange, Amount, ExtendedSize, Room, Tag, Length, Maximum, Uncalibrated, NotCompact}

abbrev pub number_of : Refusal → ℕ
number_of Short = 1
number_of (Identifier place) = 2
number_of (Version place) = 3
number_of (XOrY place) = 4
number_of (ReservedBit place) = 5
number_of (ReservedByte place) = 6
number_of (OpeningBits place) = 7
number_of (Switch place) = 8
number_of (LeftOver place) = 9
number_of NoPoint = 10
number_of Untidy = 11
number_of (OutOfRange quantity) = 12
number_of Amount = 13
number_of ExtendedSize = 14
number_of Room = 15
number_of Tag = 16
number_of Length = 17
number_of Maximum = 18
number_of Uncalibrated = 20
number_of (NotCompact quantity) = 21

-- "where a place is named the offset from the slice's start"
abbrev pub place_of : Refusal → Option ℕ
place_of Short = None
place_of (Identifier place) = Some place
place_of (Version place) = Some place
place_of (XOrY place) = place
place_of (ReservedBit place) = Some place
place_of (ReservedByte place) = Some place
place_of (OpeningBits place) = Some place
place_of (Switch place) = Some place
place_of (LeftOver place) = Some place
place_of NoPoint = None
place_of Untidy = None
place_of (OutOfRange quantity) = None
place_of Amount = None
place_of ExtendedSize = None
place_of Room = None
place_of Tag = None
place_of Length = None
place_of Maximum = None
place_of Uncalibrated = None
place_of (NotCompact quantity) = None

-- how it is told of what has to fit the compact format: 21 in place of 12, and every other as it is (request L4)
unfoldable pub in_compact : Refusal → Refusal
in_compact Short = Short
in_compact (Identifier place) = Identifier place
in_compact (Version place) = Version place
in_compact (XOrY place) = XOrY place
in_compact (ReservedBit place) = ReservedBit place
in_compact (ReservedByte place) = ReservedByte place
in_compact (OpeningBits place) = OpeningBits place
in_compact (Switch place) = Switch place
in_compact (LeftOver place) = LeftOver place
in_compact NoPoint = NoPoint
in_compact Untidy = Untidy
in_compact (OutOfRange quantity) = NotCompact quantity
in_compact Amount = Amount
in_compact ExtendedSize = ExtendedSize
in_compact Room = Room
in_compact Tag = Tag
in_compact Length = Length
in_compact Maximum = Maximum
in_compact Uncalibrated = Uncalibrated
in_compact (NotCompact quantity) = NotCompact quantity

-- ---- A reader's failure

-- the refusals that name a byte, from 2 on
abbrev pub at_byte : (place : ℕ) → List Refusal
at_byte place = Identifier place ∷ Version place ∷ XOrY (Some place) ∷ ReservedBit place ∷ ReservedByte place ∷ OpeningBits place ∷ Switch place ∷ LeftOver place ∷ []

unfoldable pub named : (number place : ℕ) → Refusal
named number place = get_or (at_byte place) (number - 2) (LeftOver place)

unfoldable pub refusal_of : Failure → Refusal
refusal_of failure.Short = Short
refusal_of (failure.Bad number place) = named number place
