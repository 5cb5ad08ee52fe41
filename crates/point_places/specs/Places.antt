-- A sample point as sixteen places: absent, constant, or a number.
use Rattle.std.specs.Prelude.{Bool, false, cond, List, [], ◌∷◌, ℤ, pos, get_or, drop, replicate}
use Rattle.formats.specs.Reader.{Answer, ok, short, bad}
use Rattle.channels.specs.declared.Place.{Place}
use Rattle.channels.specs.declared.Place.TheVariants.{Absent, Constant, Number}

-- the place of a channel that isn't stored: constant where it is included
abbrev pub unstored : (included : Bool) → Place
unstored included = cond included Constant Absent

-- the places of some channels, by the flags included and stored; `vs` are the numbers of those that are stored
unfoldable pub places_of : (included stored : List Bool) → List ℤ → List Place
places_of included [] vs = []
places_of included (flag ∷ stored) vs =
    cond flag
    (Number (get_or vs 0 (pos 0)) ∷ places_of (drop 1 included) stored (drop 1 vs))
    (unstored (get_or included 0 false) ∷ places_of (drop 1 included) stored vs)

-- sixteen absent places, where no point is
abbrev pub nowhere : List Place
nowhere = replicate 16 Absent

-- the places of a point that was read
unfoldable pub places_in : (included stored : List Bool) → Answer (List ℤ) → List Place
places_in included stored (ok point n) = places_of included stored point
places_in included stored short = nowhere
places_in included stored (bad k p) = nowhere
