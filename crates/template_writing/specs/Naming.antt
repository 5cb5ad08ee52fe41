-- Which number refusal 12 of a template's writer names (request L2): what is claimed of it.
use Rattle.std.specs.Prelude.{◌≡◌, Bool, cond, not, List, [], ◌∷◌, ◌++◌, ℕ, T, Err}
use Rattle.formats.specs.Lent.{writing}
use Rattle.refusals.specs.Ranges.{Ranged, ◌fits_if◌, FirstOutside}
use Rattle.refusals.specs.declared.Quantity.{Quantity}
use Rattle.refusals.specs.declared.Quantity.TheVariants.{Maximum}
use Rattle.refusals.specs.declared.Refusal.TheVariants.{OutOfRange}
use Rattle.channels.specs.declared.Description.{Description}
use Rattle.channels.specs.declared.Format.TheVariants.{Compact}
use Rattle.descriptions.specs.Description.{includes_xy}
use Rattle.description_judging.specs.Judging as judging
use Rattle.template_writing.specs.Writing.{exceeds, write_of}

-- the numbers of a template in stored order: those of the description that is wanted, and the maximum; one that is not wanted is out of no range
unfoldable pub numbers : (described : Bool) (d : Description) (limited : Bool) (maximum : ℕ) → List Ranged
numbers described d limited maximum = cond described (judging.numbers 1 d) [] ++ (Maximum fits_if not (exceeds limited maximum)) ∷ []

-- where write answers 12, whatever the output holds then, the number that it names is out of its range, and every earlier one in stored order is in its own
abbrev pub NamesFirst : Type 0
NamesFirst =
    (described : Bool) (d : Description) (limited : Bool) (maximum : ℕ) (out bytes : List ℕ) (name : Quantity)
    → writing (Err (OutOfRange name)) bytes ≡ write_of described d limited maximum out → FirstOutside (numbers described d limited maximum) name

-- and where a description that is wanted includes X and Y, is marked compact and is tidy, the first that is out of its range is named
abbrev pub NamesEvery : Type 0
NamesEvery =
    (described : Bool) (d : Description) (limited : Bool) (maximum : ℕ) (out : List ℕ) (name : Quantity)
    → (T described → T (includes_xy d) × T (judging.neat_in Compact d)) → FirstOutside (numbers described d limited maximum) name
    → writing (Err (OutOfRange name)) out ≡ write_of described d limited maximum out
