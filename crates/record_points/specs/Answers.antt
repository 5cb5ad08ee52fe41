-- Each public function has one answer: whatever meets its promise is the same.
use Rattle.std.specs.Prelude.{◌≡◌, List, ℕ}
use Rattle.formats.specs.Reader.{run}
use Rattle.formats.specs.OneAnswer.{OneAnswer, named}
use Rattle.records.specs.Record.{full_record}
use Rattle.record_points.specs.Pointing.{pointed_at, places_in}

module _ (s : List ℕ) where
  pub one-judged-point : (index : ℕ) → OneAnswer (λ r. r ≡ pointed_at index (run full_record s))
  one-judged-point index = named

  pub one-point : (index : ℕ) → OneAnswer (λ r. r ≡ places_in index (run full_record s))
  one-point index = named
