-- Which number refusal 12 of a record's writer names (request L2): what is claimed of it.
use Rattle.std.specs.Prelude.{◌≡◌, Bool, List, ◌∷◌, ◌++◌, ℕ, ◌*◌, T, ℤ, length, Err}
use Rattle.formats.specs.Lent.{writing}
use Rattle.refusals.specs.Ranges.{Ranged, ◌fits_if◌, FirstOutside}
use Rattle.refusals.specs.declared.Quantity.{Quantity}
use Rattle.refusals.specs.declared.Quantity.TheVariants.{Count}
use Rattle.refusals.specs.declared.Refusal.TheVariants.{OutOfRange}
use Rattle.channels.specs.declared.Description.{Description}
use Rattle.channels.specs.declared.Format.TheVariants.{Full}
use Rattle.descriptions.specs.Description.{includes_xy}
use Rattle.description_judging.specs.Judging as described
use Rattle.orders.specs.Orders.{size}
use Rattle.values.specs.Values.{samples}
use Rattle.orders.specs.declared.Order.{Order}
use Rattle.channels.specs.Descriptors.{stored}
use Rattle.record_writing.specs.Write.{count_fits, write_in}

-- the numbers of a record in stored order: those of the description, the count, and the sample values in point order, whichever the order that they are lent in
unfoldable pub numbers : Order → Description → (count : ℕ) (values : List ℤ) → List Ranged
numbers order d count values = described.numbers 2 d ++ (Count fits_if count_fits count) ∷ samples 2 (stored d) order count values

-- where a writer answers 12, whatever the output holds then, the number that it names is out of its range, and every earlier one in stored order is in its own
abbrev pub NamesFirst : Type 0
NamesFirst =
    (order : Order) (d : Description) (count : ℕ) (values : List ℤ) (wanted : Bool) (extended out bytes : List ℕ) (name : Quantity)
    → writing (Err (OutOfRange name)) bytes ≡ write_in order d count values wanted extended out → FirstOutside (numbers order d count values) name

-- and where X and Y are included, the description is marked full and tidy and the amount of values is right, the first that is out of its range is named
abbrev pub NamesEvery : Type 0
NamesEvery =
    (order : Order) (d : Description) (count : ℕ) (values : List ℤ) (wanted : Bool) (extended out : List ℕ) (name : Quantity)
    → T (includes_xy d) → T (described.neat_in Full d) → length values ≡ count * size (stored d) → FirstOutside (numbers order d count values) name
    → writing (Err (OutOfRange name)) out ≡ write_in order d count values wanted extended out
