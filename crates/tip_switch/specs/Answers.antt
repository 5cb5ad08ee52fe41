-- Each public function has one answer: whatever meets its promise is the same.
use Rattle.std.specs.Prelude.{◌≡◌, ℕ, ℤ}
use Rattle.formats.specs.OneAnswer.{OneAnswer, named}
use Rattle.tip_switch.specs.Switch.{state_of, state_if, byte_if}

module _ (byte : ℕ) where
  pub one_state : OneAnswer (λ r. r ≡ state_of byte)
  one_state = named

  pub one-switch : OneAnswer (λ r. r ≡ state_if byte)
  one-switch = named

pub one_byte : (state : ℤ) → OneAnswer (λ r. r ≡ byte_if state)
one_byte state = named
