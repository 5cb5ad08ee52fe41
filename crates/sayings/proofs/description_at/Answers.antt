-- `sayings::description_at` says nothing where no word follows, since its loop then has no turn; it ends, since each turn goes on to the next word, which begins behind this one.
use mathlib.Core.Path.{refl, ◌∙◌}
use native.Mathlib.Omega.{arith}
use Rattle.words.specs.Places.{Blank}
use Rattle.sayings.proofs.Blank.{empty}
use Rattle.sayings.proofs.description_at.Goals as goal

pub loop-place-init : goal.loop-place-init
loop-place-init c = (c.next-place.ensures.ends.inside, (λ h. empty _ _ _ _ c.next-place.ensures h), (λ h. refl))

pub loop-place-smaller : goal.loop-place-smaller
loop-place-smaller c = omega (arith, c.next-place-in-loop-place.ensures.begins.onward, c.loop-place.invariant.0 c.loop-place-test.true)

pub loop-place-preserved : goal.loop-place-preserved
loop-place-preserved c =
    let idle : Blank c.args.line.now c.args.at → ⊥ = λ h. omega (arith, c.loop-place.invariant.1 h, c.loop-place-test.true) in
    (c.next-place-in-loop-place.ensures.ends.inside, (λ h. absurd (idle h)), (λ h. absurd (idle h)))

pub returns : goal.returns
returns c h = c.loop-place.invariant.2 h ∙ c.nothing-said.ensures
