-- Each public function that writes has one answer: whatever meets its promise is the same.
use Rattle.std.specs.Prelude.{◌≡◌, List, ℕ, length, Result}
use Rattle.formats.specs.OneAnswer.{OneAnswer, named}
use Rattle.formats.specs.Lent.{Writing, writing}
use Rattle.channels.specs.Channel.{width_of}
use Rattle.channels.specs.declared.Description.{Description}
use Rattle.channels.specs.declared.Format.{Format}
use Rattle.descriptions.specs.Description.{encode_description}
use Rattle.description_writing.specs.Write.{put_if}
use Rattle.refusals.specs.declared.Refusal.{Refusal}

pub one_size : (description : Description) (format : Format) → OneAnswer (λ r. r ≡ length (encode_description (width_of format) description))
one_size description format = named

-- of the answer and the bytes together
pub one-put : (out : List ℕ) (start : ℕ) (description : Description) (format : Format)
    → OneAnswer (λ (w : Writing (Result ℕ Refusal)). writing w.answer w.bytes ≡ put_if format description out start)
one-put out start description format = named
