-- Each public function has one answer: whatever meets its promise is the same.
use Rattle.std.specs.Prelude.{◌≡◌, Bool, List, ℕ}
use Rattle.formats.specs.OneAnswer.{OneAnswer, named}
use Rattle.formats.specs.Reader.{read_at}
use Rattle.channels.specs.Channel.{width_of}
use Rattle.channels.specs.declared.Format.{Format}
use Rattle.points.specs.Points.{point}
use Rattle.point_places.specs.Places.{places_in}
use Rattle.point_places.specs.Parts.{place, place_read}

module _ (s : List ℕ) (start : ℕ) (format : Format) where
  pub one_place : (channel : ℕ) (included stored : Bool) → OneAnswer (λ r. r ≡ place_read (read_at (place (width_of format) channel included stored) s start))
  one_place channel included stored = named

  pub one-places : (included stored : List Bool) → OneAnswer (λ r. r ≡ places_in included stored (read_at (point (width_of format) stored) s start))
  one-places included stored = named
