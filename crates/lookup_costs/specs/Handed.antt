-- What is handed over to C, by what a lookup answers: 0 for the point, else the refusal's number.
use Rattle.std.specs.Prelude.{List, ℕ, ◌%◌, ℤ, pos, get_or, Result, Ok, Err, ⊤}
use Rattle.refusals.specs.Table.{number_of}
use Rattle.channels.specs.declared.Place.{Place}
use Rattle.channels.specs.declared.Place.TheVariants.{Absent, Constant, Number}
use Rattle.lookups.specs.declared.Lookup.{Lookup}
use Rattle.lookup_costs.specs.declared.Looked.{Looked}
use Rattle.refusals.specs.declared.Refusal.{Refusal}

abbrev pub handed_pointed : (looked : ℕ) → Result ⊤ Refusal → Looked
handed_pointed looked (Ok _) = record { number = 0; looked = looked }
handed_pointed looked (Err refusal) = record { number = number_of refusal; looked = looked }

unfoldable pub handed_lookup : Lookup → Looked
handed_lookup l = handed_pointed l.looked l.pointed

-- a place as one number: its own, or one that no place has
abbrev pub handed_place : Place → ℤ
handed_place Absent = pos 100000
handed_place Constant = pos 200000
handed_place (Number value) = value

-- the place of one channel of the sixteen
unfoldable pub handed_point : (channel : ℕ) → List Place → ℤ
handed_point channel places = handed_place (get_or places (channel % 16) Absent)
