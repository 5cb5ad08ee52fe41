-- Each public function has one answer: whatever meets its promise is the same.
use Rattle.std.specs.Prelude.{◌≡◌, Bool, List, ℕ, ◌*◌, ◌≤◌, eqb}
use Rattle.formats.specs.OneAnswer.{OneAnswer, named}
use Rattle.orders.specs.Orders.{size, step, stride}
use Rattle.orders.specs.declared.Order.{Order}

pub one_size : (stored : List Bool) → OneAnswer (λ r. (r ≡ size stored) × (r ≤ 16))
one_size stored r q e g = named r q e.0 g.0

pub one-amount : (amount count k : ℕ) → OneAnswer (λ r. r ≡ eqb amount (count * k))
one-amount amount count k = named

module _ (order : Order) where
  pub one-step : (k : ℕ) → OneAnswer (λ r. r ≡ step order k)
  one-step k = named

  pub one-stride : (count : ℕ) → OneAnswer (λ r. r ≡ stride order count)
  one-stride count = named
