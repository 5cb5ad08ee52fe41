-- `texts::Text::put_bytes` meets its contract. The invariant: what is left makes of the text what all bytes make of it from the start.
use mathlib.Core.Path.{◌≡◌, sym, ap, ◌∙◌}
use Prim.Native.Nat.{◌+◌}
use lib.ListN.{length}
use native.Mathlib.Omega.{arith}
use Rattle.texts.specs.Gathered.{gathered}
use Rattle.texts.specs.JoiningLaws.{joins-copied, joins-none}
use Rattle.texts.proofs.Text.put_bytes.Goals as goal

pub loop-i-init : goal.loop-i-init
loop-i-init c = let z : c.self.inside.used + 0 ≡ c.self.inside.used = omega arith in rw z

pub loop-i-preserved : goal.loop-i-preserved
loop-i-preserved c = c.loop-i.invariant ∙ joins-copied c.loop-i.self-inside.bytes c.args.bytes.now c.self.inside.used c.loop-i.i (omega arith) (omega arith)

pub returns : goal.returns
returns c =
    let at = c.self.inside.used in
    let all : c.loop-i.i ≡ length c.args.bytes.now = omega arith in
    rw
    (← c.self.view_is)
    (sym (c.loop-i.invariant ∙ joins-none _ _ c.loop-i.i (omega arith) ∙ ap (λ i. gathered c.loop-i.self-inside.bytes (at + i)) all))
