-- The public function has one answer: whatever meets its promise is the same.
use Rattle.std.specs.Prelude.{◌≡◌}
use Rattle.formats.specs.OneAnswer.{OneAnswer, named}
use Rattle.channels.specs.declared.Description.{Description}
use Rattle.channels.specs.declared.Format.{Format}
use Rattle.description_judging.specs.Judging.{judgement_of}

pub one-judged : (description : Description) (format : Format) → OneAnswer (λ r. r ≡ judgement_of format description)
one-judged description format = named
