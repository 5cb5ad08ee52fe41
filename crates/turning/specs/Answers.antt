-- The public function has one answer: whatever meets its promise is the same.
use Rattle.std.specs.Prelude.{◌≡◌, List, ℕ, length}
use Rattle.formats.specs.OneAnswer.{OneAnswer, named}
use Rattle.formats.specs.Reader.{run}
use Rattle.records.specs.Record.{full_record}
use Rattle.turning.specs.Turning.{Turning, turning, turn_of}

-- of the answer and both outputs together
pub one-turned : (whole template body : List ℕ) → OneAnswer (λ (t : Turning). turning t.answer t.template t.body ≡ turn_of (length whole) (run full_record whole) template body)
one-turned whole template body = named
