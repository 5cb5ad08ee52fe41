-- `texts::Text::put_each` meets its contract. The invariant: what is left makes of the text what all bytes make of it from the start.
use mathlib.Core.Path.{sym, ap, ◌∙◌}
use Prim.Native.Nat.{◌+◌}
use native.Mathlib.Omega.{arith}
use lib.ListN.{drop}
use Rattle.texts.specs.Gathered.{joins_all}
use Rattle.texts.specs.JoiningLaws.{joins-next, joins-none}
use Rattle.texts.proofs.Text.put_each.Goals as goal

pub loop-byte-preserved : goal.loop-byte-preserved
loop-byte-preserved c =
    let b = c.args.bytes.now in
    c.loop-byte.invariant ∙ joins-next _ b c.loop-byte.byte-index (omega arith) ∙ ap (λ t. joins_all t (drop (c.loop-byte.byte-index + 1) b)) (sym c.put.ensures)

pub returns : goal.returns
returns c = sym (c.loop-byte.invariant ∙ joins-none _ _ c.loop-byte.byte-index (omega arith))
