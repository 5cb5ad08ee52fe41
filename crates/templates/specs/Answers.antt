-- Each public function has one answer: whatever meets its promise is the same.
use Rattle.std.specs.Prelude.{◌≡◌, List, ℕ}
use Rattle.formats.specs.OneAnswer.{OneAnswer, named}
use Rattle.templates.specs.Reading.{template_of}

pub one-read : (bytes : List ℕ) → OneAnswer (λ r. r ≡ template_of bytes)
one-read bytes = named
