-- `channels::leads` meets its contract: the highest of sixteen bits is set from 32768 on.
use mathlib.Core.Path.{sym, ◌∙◌}
use mathlib.Core.Logic.{by_cases}
use Prim.Native.Nat.{◌/◌, ◌%◌}
use native.Mathlib.Decide.{dec_lt}
use native.Mathlib.Omega.{arith}
use borrow.Author.Tests.{eq-eqb, ne_eqb, le-leb, lt-leb}
use Rattle.channels.proofs.leads.Goals as goal

pub returns : goal.returns
returns c =
    let b = c.args.bits in
    by_cases
    (dec_lt b 32768)
    (λ q. lt-leb 32768 b q ∙ sym (ne_eqb (b / 32768 % 2) 1 (λ e. omega arith)))
    (λ q. le-leb 32768 b (omega arith) ∙ sym (eq-eqb (b / 32768 % 2) 1 (omega arith)))
