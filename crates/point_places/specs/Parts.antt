-- What one number of a point and one place of it are told as, with where they end.
use Rattle.std.specs.Prelude.{Bool, cond, ℕ, ℤ, Result, Ok, Err}
use Rattle.formats.specs.Reader.{Reader, Answer, ok, short, bad, done, map}
use Rattle.formats.specs.declared.Failure.TheVariants.{Short, Bad}
use Rattle.channels.specs.declared.Place.{Place}
use Rattle.channels.specs.declared.Place.TheVariants.{Number}
use Rattle.points.specs.Points.{sample}
use Rattle.point_places.specs.Places.{unstored}
use Rattle.formats.specs.declared.Failure.{Failure}
use Rattle.point_places.specs.declared.PlaceRead.{PlaceRead}
use Rattle.point_places.specs.declared.Sample.{Sample}

-- a number and the place after it
unfoldable pub sampled : Answer ℤ → Result Sample Failure
sampled (ok v n) = Ok (record { value = v; next = n })
sampled short = Err Short
sampled (bad k p) = Err (Bad k p)

-- what a point says of a channel, by its two flags: one that isn't stored has no bytes
unfoldable pub place : (w channel : ℕ) (included stored : Bool) → Reader Place
place w channel included stored = cond stored (map Number (sample w channel)) (done (unstored included))

-- a place of a point and where its bytes end
unfoldable pub place_read : Answer Place → Result PlaceRead Failure
place_read (ok v n) = Ok (record { place = v; next = n })
place_read short = Err Short
place_read (bad k p) = Err (Bad k p)
