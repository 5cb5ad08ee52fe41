-- Each public function has one answer: whatever meets its promise is the same.
use Rattle.std.specs.Prelude.{◌≡◌, Bool, List, ℕ, Result}
use Rattle.formats.specs.OneAnswer.{OneAnswer, named}
use Rattle.formats.specs.Lent.{Writing, writing}
use Rattle.channels.specs.declared.Description.{Description}
use Rattle.template_writing.specs.Writing.{write_of}
use Rattle.refusals.specs.declared.Refusal.{Refusal}

-- of the answer and the bytes together
pub one-write : (described : Bool) (description : Description) (limited : Bool) (maximum : ℕ) (out : List ℕ)
    → OneAnswer (λ (w : Writing (Result ℕ Refusal)). writing w.answer w.bytes ≡ write_of described description limited maximum out)
one-write described description limited maximum out = named
