-- `texts::Text::put_hex` meets its contract. The invariant: the bytes that are left make of the text what all make of it from the start.
use mathlib.Core.Path.{sym, ap, ap₂, ◌∙◌}
use Prim.Native.Nat.{◌+◌}
use native.Mathlib.Omega.{arith}
use lib.ListN.{drop}
use Rattle.texts.specs.Gathered.{joins, joins_all}
use Rattle.texts.specs.JoiningLaws.{hex-empty, hex-bytes, hex-next, hex-none}
use Rattle.texts.specs.Digits.{hex_pairs}
use Rattle.texts.proofs.Text.put_hex.Goals as goal

pub returns-then-bytes-eq0 : goal.returns-then-bytes-eq0
returns-then-bytes-eq0 c = c.put.ensures ∙ hex-empty _ _ c.if-bytes-eq0.true

pub loop-byte-init : goal.loop-byte-init
loop-byte-init c = ap (joins_all _) (hex-bytes _ c.if-bytes-eq0.false)

pub loop-byte-preserved : goal.loop-byte-preserved
loop-byte-preserved c =
    let b = c.args.bytes.now in
    let at = c.loop-byte.byte-index in
    c.loop-byte.invariant
    ∙ hex-next _ b at (omega arith)
    ∙ ap
    (λ t. joins_all t (hex_pairs (drop (at + 1) b)))
    (sym (c.put-in-loop-byte-2.ensures ∙ ap₂ joins (c.put-in-loop-byte.ensures ∙ ap (joins _) c.hex_digit.ensures) c.hex_digit-in-loop-byte.ensures))

pub returns : goal.returns
returns c = sym (c.loop-byte.invariant ∙ hex-none _ _ c.loop-byte.byte-index (omega arith))
