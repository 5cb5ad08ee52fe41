-- A promise that leaves no choice: whatever two answers meet it, they are one.
use Rattle.std.specs.Prelude.{◌≡◌}
use Rattle.std.proofs.Common.{sym, ◌∙◌}

abbrev pub OneAnswer : {A : Type 0} → (A → Type 0) → Type 0
OneAnswer {A} Promise = (r q : A) → Promise r → Promise q → r ≡ q

-- so it is where the promise names the answer
pub named : {A : Type 0} {x : A} → OneAnswer (λ r. r ≡ x)
named r q e g = e ∙ sym g
