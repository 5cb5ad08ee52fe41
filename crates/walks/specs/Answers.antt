-- Each public function has one answer: whatever meets its promise is the same.
use Rattle.std.specs.Prelude.{◌≡◌, List, ℕ}
use Rattle.std.specs.Borrow.{Bor}
use Rattle.formats.specs.OneAnswer.{OneAnswer, named}
use Rattle.walks.specs.Walk.{step_of, at_start, moved}
use Rattle.walks.specs.declared.Step.{Step}
use Rattle.walks.specs.declared.Walker.{Walker}

pub one-step : (file : List ℕ) (place : ℕ) → OneAnswer (λ r. r ≡ step_of file place)
one-step file place = named

pub one-walker : (file : Bor (List ℕ)) → OneAnswer (λ r. r ≡ at_start file)
one-walker file = named

-- the answer of a walker's step, and the walker afterwards
pub one-walk : (w : Walker) → OneAnswer (λ (a : Step × Walker). (a.0 ≡ step_of w.file.now w.place) × (a.1 ≡ moved w))
one-walk w a b e g = λ i. (named a.0 b.0 e.0 g.0 i, named a.1 b.1 e.1 g.1 i)
