-- Numbers that are judged one behind the other, in the order in which they are stored: refusal 12 names the first that is out of its range (request L2).
use Rattle.std.specs.Prelude.{◌≡◌, Bool, true, false, List, [], ◌∷◌, ◌++◌, Result, Ok, ⊤}
use Rattle.formats.specs.Writes.{All}
use Rattle.refusals.specs.Stages.{require, or_else}
use Rattle.refusals.specs.declared.Quantity.{Quantity}
use Rattle.refusals.specs.declared.Refusal.TheVariants.{OutOfRange}
use Rattle.refusals.specs.declared.Refusal.{Refusal}

-- a number by its name, and whether it is in its range
pub record Ranged : Type 0 where
  pub name : Quantity
  pub fits : Bool

infix 20 ◌fits_if◌
abbrev pub ◌fits_if◌ : Quantity → Bool → Ranged
name fits_if test = record { name = name; fits = test }

-- the first that does not fit is refused by its name; where all fit, none is
unfoldable pub first_misfit : List Ranged → Result ⊤ Refusal
first_misfit [] = Ok tt
first_misfit (number ∷ l) = or_else (require number.fits (OutOfRange number.name)) (first_misfit l)

-- ---- What is claimed of it

abbrev pub AllFit : List Ranged → Type 0
AllFit = All (λ number. number.fits ≡ true)

-- the number of this name is out of its range, and every earlier one is in its own
pub record FirstOutside (l : List Ranged) (name : Quantity) : Type 0 where
  pub earlier : List Ranged
  pub later : List Ranged
  pub stands : l ≡ earlier ++ (name fits_if false) ∷ later
  pub before : AllFit earlier
