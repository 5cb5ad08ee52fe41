-- `formats::put` meets its contract. The invariant: what is left to copy makes of these bytes what all that there is room for makes of those at the start.
use mathlib.Core.Path.{◌≡◌, sym, ◌∙◌}
use Prim.Native.Nat.{◌-◌}
use native.Mathlib.Omega.{arith}
use lib.ListN.{length, take}
use lib.Seq.{get_or-take}
use Rattle.std.proofs.lemmas.List.{length-take}
use Rattle.formats.specs.Laid.{laid_none, laid-within, copied_none, copied_next, copied_all}
use Rattle.formats.proofs.put.Goals as goal

pub returns-then-out-start : goal.returns-then-out-start
returns-then-out-start c =
    let a = c.args in
    let z : length a.out.now - a.start ≡ 0 = omega arith in
    laid-within _ (rw z (laid_none _ _))

pub loop-i-init : goal.loop-i-init
loop-i-init c = copied_none _ _ _

pub loop-i-preserved : goal.loop-i-preserved
loop-i-preserved c =
    let a = c.args in
    let room = length a.out.now - a.start in
    let all : length (take room a.bytes.now) ≡ c.min-count.result = length-take room a.bytes.now ∙ sym c.min-count.ensures in
    rw
    (get_or-take room a.bytes.now c.loop-i.i 0 (omega (arith, c.min-count.ensures)))
    at (copied_next a.start (take room a.bytes.now) c.loop-i.i (omega (arith, all)) c.loop-i.invariant)

pub returns : goal.returns
returns c =
    let a = c.args in
    let room = length a.out.now - a.start in
    let all : length (take room a.bytes.now) ≡ c.min-count.result = length-take room a.bytes.now ∙ sym c.min-count.ensures in
    let last : c.loop-i.i ≡ c.min-count.result = omega arith in
    laid-within _ (rw last at (copied_all a.start _ c.loop-i.i (omega (arith, all)) c.loop-i.invariant))
