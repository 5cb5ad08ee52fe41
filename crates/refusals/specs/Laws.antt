-- A reader's failure keeps its number and its place; and the numbers of the table, row by row.
use Rattle.std.specs.Prelude.{◌≡◌, refl, List, [], ◌∷◌, map, ℕ, zero, suc, ◌+◌, ◌-◌, ◌≤◌, ◌<◌, length, get_or, Some, None}
use Rattle.std.proofs.Common.{arith}
use Rattle.formats.specs.declared.Failure.TheVariants.{Bad}
use Rattle.refusals.specs.Table.{number_of, place_of, at_byte, named, refusal_of}
use Rattle.refusals.specs.declared.Quantity.{Quantity}
use Rattle.refusals.specs.declared.Refusal.{Refusal}
use Rattle.refusals.specs.declared.Refusal.TheVariants.{Short, Identifier, Version, XOrY, ReservedBit, ReservedByte, OpeningBits, Switch, LeftOver, NoPoint, Untidy, OutOfRange, Amount, ExtendedSize, Room, Tag, Length, Maximum, Uncalibrated, NotCompact}

-- ---- The table

-- all the rows: those that a reader gives at a place, X or Y when writing, and whatever was out of range or did not fit
abbrev rows : (place : ℕ) (quantity : Quantity) → List Refusal
rows place quantity =
    Short
    ∷ Identifier place
    ∷ Version place
    ∷ XOrY (Some place)
    ∷ ReservedBit place
    ∷ ReservedByte place
    ∷ OpeningBits place
    ∷ Switch place
    ∷ LeftOver place
    ∷ NoPoint
    ∷ Untidy
    ∷ OutOfRange quantity
    ∷ Amount
    ∷ ExtendedSize
    ∷ Room
    ∷ Tag
    ∷ Length
    ∷ Maximum
    ∷ Uncalibrated
    ∷ NotCompact quantity
    ∷ []

pub numbers : (place : ℕ) (quantity : Quantity) → map number_of (rows place quantity) ≡ 1 ∷ 2 ∷ 3 ∷ 4 ∷ 5 ∷ 6 ∷ 7 ∷ 8 ∷ 9 ∷ 10 ∷ 11 ∷ 12 ∷ 13 ∷ 14 ∷ 15 ∷ 16 ∷ 17 ∷ 18 ∷ 20 ∷ 21 ∷ []
numbers place quantity = refl

-- 4 when writing: the same number, and no place
pub written-number : number_of (XOrY None) ≡ 4
written-number = refl

-- ---- A failure

-- the refusals of a list have the numbers from k on, and the place
InOrder : ℕ → ℕ → List Refusal → Type 0
InOrder k place [] = Unit {0}
InOrder k place (r ∷ l) = ((number_of r ≡ k) × (place_of r ≡ Some place)) × InOrder (suc k) place l

in_order : (l : List Refusal) (k place i : ℕ) (d : Refusal) → InOrder k place l → i < length l → (number_of (get_or l i d) ≡ k + i) × (place_of (get_or l i d) ≡ Some place)
unfolding InOrder
in_order [] k place i d h q = absurd (omega arith)
in_order (r ∷ l) k place zero d h q = (omega (arith, h.0.0), h.0.1)
in_order (r ∷ l) k place (suc i) d h q = let x = in_order l (suc k) place i d h.1 (omega arith) in (omega (arith, x.0), x.1)

-- a byte that a reader refuses with 2 to 9 is refused with that number at that place
pub bad-refusal : (k place : ℕ) → 2 ≤ k → k ≤ 9 → (number_of (refusal_of (Bad k place)) ≡ k) × (place_of (refusal_of (Bad k place)) ≡ Some place)
unfolding refusal_of named InOrder
bad-refusal k place h q =
    let x = in_order (at_byte place) 2 place (k - 2) (LeftOver place) ((refl, refl), ((refl, refl), ((refl, refl), ((refl, refl), ((refl, refl), ((refl, refl), ((refl, refl), ((refl, refl), tt)))))))) (omega arith) in
    (omega (arith, x.0), x.1)
