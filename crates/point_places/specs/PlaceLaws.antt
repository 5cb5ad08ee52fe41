-- A point of no channel has no bytes and says nothing: sixteen absent places, wherever it is read.
use Rattle.std.specs.Prelude.{◌≡◌, false, List, [], ℕ, replicate}
use Rattle.std.proofs.Common.{ap}
use Rattle.formats.specs.Reader.{read_at, each}
use Rattle.formats.specs.Compose.{at_done}
use Rattle.points.specs.Points.{stored_from, channels, point}
use Rattle.point_places.specs.Places.{places_of, nowhere, places_in}

pub read-nowhere : (w : ℕ) (s : List ℕ) (at : ℕ) → places_in (replicate 16 false) (replicate 16 false) (read_at (point w (replicate 16 false)) s at) ≡ nowhere
unfolding places_in point channels stored_from each places_of
read-nowhere w s at = ap (places_in (replicate 16 false) (replicate 16 false)) (at_done [] s at)
