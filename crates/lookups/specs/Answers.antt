-- Each public function has one answer: whatever meets its promise is the same.
use Rattle.std.specs.Prelude.{◌≡◌, List, ℕ, ◌≤◌}
use Rattle.formats.specs.OneAnswer.{OneAnswer, named}
use Rattle.lookups.specs.Lookup.{look_up, answered}

module _ (s : List ℕ) (index : ℕ) where
  pub one-lookup : OneAnswer (λ r. (r ≡ answered (look_up s index)) × (r.looked ≤ 223))
  one-lookup r q e g = named r q e.0 g.0

  pub one-point : OneAnswer (λ r. r ≡ (look_up s index).places)
  one-point = named
