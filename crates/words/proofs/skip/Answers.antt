-- `words::skip` finds the first place without the mark: every place that is passed holds it.
use Rattle.std.proofs.Common.{◌≡◌, ℕ, Some, None, rules, arith}
use Rattle.std.proofs.lemmas.Iterator.{IsFirst-from_position, YieldsList-from_slice}
use Rattle.words.proofs.Search.{found, ended}
use borrow.Author.Tests.{tests}
use Rattle.words.proofs.skip.Goals as goal

pub returns-in-Some : goal.returns-in-Some
returns-in-Some c =
    let at = IsFirst-from_position _ _ (Some c.in-Some.marks) (λ (byte : ℕ). byte ≡ c.args.mark → ⊥) (λ (byte : ℕ). byte ≡ c.args.mark) c.in-Some.ensures.ran (YieldsList-from_slice c.part-rest.result.now c.iter.ensures.rest) (λ x q k. search (rules, tests)) (λ x q k. search (rules, tests)) in
    found _ _ _ _ _ _ c.part-rest.ensures at

pub returns-in-None : goal.returns-in-None
returns-in-None c =
    let all = IsFirst-from_position _ _ None (λ (byte : ℕ). byte ≡ c.args.mark → ⊥) (λ (byte : ℕ). byte ≡ c.args.mark) c.in-None.ensures.ran (YieldsList-from_slice c.part-rest.result.now c.iter.ensures.rest) (λ x q k. search (rules, tests)) (λ x q k. search (rules, tests)) in
    ended _ _ _ _ _ _ c.part-rest.ensures all (omega arith) (omega arith) (λ h. omega arith)
