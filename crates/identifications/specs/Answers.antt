-- The public function has one answer: whatever meets its promise is the same.
use Rattle.std.specs.Prelude.{◌≡◌, List, ℕ}
use Rattle.formats.specs.Reader.{read_at}
use Rattle.formats.specs.Told.{told}
use Rattle.formats.specs.OneAnswer.{OneAnswer, named}
use Rattle.identifications.specs.Identification.{identification}

pub one_end : (s : List ℕ) (start : ℕ) → OneAnswer (λ r. r ≡ told (read_at identification s start))
one_end s start = named
