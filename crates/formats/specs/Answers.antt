-- Each public function has one answer: whatever meets its promise is the same.
use Rattle.std.specs.Prelude.{◌≡◌, List, ℕ, ◌+◌, ◌*◌, ◌/◌, ◌%◌, leb}
use Rattle.formats.specs.OneAnswer.{OneAnswer, named}
use Rattle.formats.specs.Lent.{Writing, writing}
use Rattle.formats.specs.Laid.{put_within}

pub one-pair : (high low : ℕ) → OneAnswer (λ r. r ≡ high * 256 + low)
one-pair high low = named

pub one-high : (number : ℕ) → OneAnswer (λ r. r ≡ number / 256)
one-high number = named

pub one-low : (number : ℕ) → OneAnswer (λ r. r ≡ number % 256)
one-low number = named

-- of the answer and the bytes together
pub one-put : (out : List ℕ) (start : ℕ) (bytes : List ℕ) → OneAnswer (λ (w : Writing ℕ). writing w.answer w.bytes ≡ put_within out start bytes)
one-put out start bytes = named

pub one-within : (count size room : ℕ) → OneAnswer (λ r. r ≡ leb (count * size) room)
one-within count size room = named
