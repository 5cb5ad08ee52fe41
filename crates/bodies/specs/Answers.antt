-- Each public function has one answer: whatever meets its promise is the same.
use Rattle.std.specs.Prelude.{◌≡◌, Bool, List, ℕ, ℤ, Result}
use Rattle.formats.specs.OneAnswer.{OneAnswer, named}
use Rattle.formats.specs.Lent.{Writing, writing}
use Rattle.templates.specs.Reading.{template_of}
use Rattle.bodies.specs.Reading.{judged_by, pointed_by, places_by}
use Rattle.bodies.specs.Writing.{count_fits, write_by}
use Rattle.bodies.specs.declared.Refused.{Refused}

module _ (template body : List ℕ) where
  pub one-judged : OneAnswer (λ r. r ≡ judged_by (template_of template) body)
  one-judged = named

  pub one-pointed : (index : ℕ) → OneAnswer (λ r. r ≡ pointed_by index (template_of template) body)
  one-pointed index = named

  pub one-point : (index : ℕ) → OneAnswer (λ r. r ≡ places_by index (template_of template) body)
  one-point index = named

pub one-count : (count width : ℕ) → OneAnswer (λ r. r ≡ count_fits count width)
one-count count width = named

-- of the answer and the bytes together
pub one_written : (template : List ℕ) (count : ℕ) (numbers : List ℤ) (wanted : Bool) (out : List ℕ)
    → OneAnswer (λ (w : Writing (Result ℕ Refused)). writing w.answer w.bytes ≡ write_by (template_of template) count numbers wanted out)
one_written template count numbers wanted out = named
