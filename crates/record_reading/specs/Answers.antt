-- Each public function has one answer: whatever meets its promise is the same.
use Rattle.std.specs.Prelude.{◌≡◌, List, ℕ, length}
use Rattle.formats.specs.Reader.{run, read_at}
use Rattle.formats.specs.OneAnswer.{OneAnswer, named}
use Rattle.records.specs.Record.{full_record}
use Rattle.record_reading.specs.Verdict.{verdict_from, judged, judged_whole}

module _ (s : List ℕ) where
  pub one-verdict : (start : ℕ) → OneAnswer (λ r. r ≡ verdict_from start (read_at full_record s start))
  one-verdict start = named

  pub one-judged : OneAnswer (λ r. r ≡ judged (run full_record s))
  one-judged = named

  pub one-judged-whole : OneAnswer (λ r. r ≡ judged_whole (length s) (run full_record s))
  one-judged-whole = named
