-- Each exported function has one answer: whatever meets its promise is the same.
use Rattle.std.specs.Prelude.{◌≡◌, List, ℕ}
use Rattle.formats.specs.OneAnswer.{OneAnswer, named}
use Rattle.lookups.specs.Lookup.{answered, look_up}
use Rattle.lookup_costs.specs.Handed.{handed_lookup, handed_point}

module _ (s : List ℕ) (index : ℕ) where
  pub one-lookup : OneAnswer (λ r. r ≡ handed_lookup (answered (look_up s index)))
  one-lookup = named

  pub one-point : (channel : ℕ) → OneAnswer (λ r. r ≡ handed_point channel (look_up s index).places)
  one-point channel = named
