-- `sayings::described_at` says nothing where no word follows, since its loop then has no turn; it ends, since each turn goes on to the next word, which begins behind this one.
use mathlib.Core.Path.{refl, ap, ◌∙◌}
use Rattle.std.proofs.Common.{Ok}
use native.Mathlib.Omega.{arith}
use Rattle.words.specs.Places.{Blank}
use Rattle.sayings.proofs.Blank.{empty}
use Rattle.sayings.proofs.described_at.Goals as goal

pub loop-span-init : goal.loop-span-init
loop-span-init c = (c.next-span.ensures.ends.inside, (λ h. empty _ _ _ _ c.next-span.ensures h), (λ h. refl))

pub loop-span-smaller : goal.loop-span-smaller
loop-span-smaller c = omega (arith, c.next-span-in-loop-span.ensures.begins.onward, c.loop-span.invariant.0 c.loop-span-test.true)

pub loop-span-preserved : goal.loop-span-preserved
loop-span-preserved c =
    let idle : Blank c.args.line.now c.args.at → ⊥ = λ h. omega (arith, c.loop-span.invariant.1 h, c.loop-span-test.true) in
    (c.next-span-in-loop-span.ensures.ends.inside, (λ h. absurd (idle h)), (λ h. absurd (idle h)))

pub returns-clause-nothing : goal.returns-clause-nothing
returns-clause-nothing c h = ap (λ d. Ok d) (c.loop-span.invariant.2 h ∙ c.nothing-description.ensures)
