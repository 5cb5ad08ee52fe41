-- Each public function has one answer: whatever meets its promise is the same.
use Rattle.std.specs.Prelude.{◌≡◌, List, ℕ}
use Rattle.formats.specs.OneAnswer.{OneAnswer, named}
use Rattle.formats.specs.Lent.{Writing, writing}
use Rattle.channels.specs.Channel.{width_of}
use Rattle.channels.specs.declared.Format.{Format}
use Rattle.stored_numbers.specs.Numbers.{number_at, put_number}

pub one_number : (bytes : List ℕ) (at : ℕ) (format : Format) → OneAnswer (λ r. r ≡ number_at (width_of format) bytes at)
one_number bytes at format = named

-- of the answer and the bytes together
pub one-put : (out : List ℕ) (at number : ℕ) (format : Format)
    → OneAnswer (λ (v : Writing ℕ). writing v.answer v.bytes ≡ put_number (width_of format) number out at)
one-put out at number format = named
