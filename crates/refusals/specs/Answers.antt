-- Each public function has one answer: whatever meets its promise is the same.
use Rattle.std.specs.Prelude.{◌≡◌}
use Rattle.formats.specs.OneAnswer.{OneAnswer, named}
use Rattle.formats.specs.declared.Failure.{Failure}
use Rattle.refusals.specs.Table.{number_of, place_of, in_compact, refusal_of}
use Rattle.refusals.specs.declared.Refusal.{Refusal}

pub one_number : (refusal : Refusal) → OneAnswer (λ r. r ≡ number_of refusal)
one_number refusal = named

pub one_place : (refusal : Refusal) → OneAnswer (λ r. r ≡ place_of refusal)
one_place refusal = named

pub one-in-compact : (refusal : Refusal) → OneAnswer (λ r. r ≡ in_compact refusal)
one-in-compact refusal = named

pub one-refusal : (failure : Failure) → OneAnswer (λ r. r ≡ refusal_of failure)
one-refusal failure = named
