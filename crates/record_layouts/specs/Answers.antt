-- Each public function has one answer: whatever meets its promise is the same.
use Rattle.std.specs.Prelude.{◌≡◌, List, ℕ, Result}
use Rattle.formats.specs.OneAnswer.{OneAnswer, named}
use Rattle.formats.specs.Told.{then_told}
use Rattle.formats.specs.declared.Failure.{Failure}
use Rattle.record_fronts.specs.declared.Front.{Front}
use Rattle.record_layouts.specs.Layout.{layout_behind, layout_at}

module _ (s : List ℕ) where
  pub one-layout-behind : (front : Result Front Failure) → OneAnswer (λ r. r ≡ then_told front (layout_behind s))
  one-layout-behind front = named

  pub one-layout : (start : ℕ) → OneAnswer (λ r. r ≡ layout_at s start)
  one-layout start = named
