-- What private functions answer: of the places of a sample point the first number that one byte doesn't hold, and their bytes in a body.
use Rattle.std.specs.Prelude.{List, [], ◌∷◌, ◌++◌, ℕ, suc, Result, Ok, ⊤}
use Rattle.refusals.specs.Stages.{require, or_else}
use Rattle.refusals.specs.declared.Quantity.TheVariants.{Value}
use Rattle.refusals.specs.declared.Refusal.TheVariants.{OutOfRange}
use Rattle.channels.specs.declared.Place.{Place}
use Rattle.channels.specs.declared.Place.TheVariants.{Absent, Constant, Number}
use Rattle.points.specs.Points.{fits_sample}
use Rattle.values.specs.Values.{sample_bytes}
use Rattle.refusals.specs.declared.Refusal.{Refusal}

-- from channel i on, where the next number has this index among all
unfoldable pub misfit_in : (i from : ℕ) → List Place → Result ⊤ Refusal
misfit_in i from [] = Ok tt
misfit_in i from (Absent ∷ places) = misfit_in (suc i) from places
misfit_in i from (Constant ∷ places) = misfit_in (suc i) from places
misfit_in i from (Number v ∷ places) = or_else (require (fits_sample 1 i v) (OutOfRange (Value from i))) (misfit_in (suc i) (suc from) places)

unfoldable pub bytes_in : (i : ℕ) → List Place → List ℕ
bytes_in i [] = []
bytes_in i (Absent ∷ places) = bytes_in (suc i) places
bytes_in i (Constant ∷ places) = bytes_in (suc i) places
bytes_in i (Number v ∷ places) = sample_bytes 1 i v ++ bytes_in (suc i) places
