-- Each public function has one answer: whatever meets its promise is the same.
use Rattle.std.specs.Prelude.{◌≡◌, List, ℕ, Result}
use Rattle.formats.specs.Reader.{read_at}
use Rattle.formats.specs.OneAnswer.{OneAnswer, named}
use Rattle.formats.specs.Told.{then_told}
use Rattle.formats.specs.declared.Failure.{Failure}
use Rattle.descriptions.specs.declared.Measured.{Measured}
use Rattle.record_fronts.specs.Front.{front}
use Rattle.record_fronts.specs.Fronted.{fronted, front_behind}

module _ (s : List ℕ) where
  pub one-front-behind : (measured : Result Measured Failure) → OneAnswer (λ r. r ≡ then_told measured (front_behind s))
  one-front-behind measured = named

  pub one-front : (start : ℕ) → OneAnswer (λ r. r ≡ fronted (read_at front s start))
  one-front start = named
