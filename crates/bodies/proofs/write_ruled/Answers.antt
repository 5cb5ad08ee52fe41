-- `bodies::write_ruled` meets its contract: what the stages say, and then the room, decides what becomes of the output.
use Rattle.std.specs.Prelude.{Ok, Result, ⊤}
use mathlib.Core.Path.{◌≡◌, sym, ap, ap₂, ◌∙◌}
use mathlib.Core.List.{List}
use Prim.Native.Nat.{ℕ, ◌*◌}
use native.Mathlib.Nat.{mul-le-mul_right}
use native.Mathlib.Omega.{arith}
use lib.ListN.{length}
use borrow.Author.Tests.{le-leb, lt-leb}
use Rattle.formats.specs.Lent.{writing}
use Rattle.orders.specs.Orders.{size, points_of}
use Rattle.orders.specs.declared.Order.TheVariants.{Point}
use Rattle.values.proofs.ValueLaws.{fits-length, put-laid}
use Rattle.bodies.specs.Body.{encode_body}
use Rattle.bodies.specs.Writing.{put_where, write_ruled}
use Rattle.bodies.proofs.WritingLaws.{Passes, passes, fits-small}
use Rattle.bodies.proofs.write_ruled.Goals as goal
use Rattle.bodies.proofs.write_ruled.Goals.{After-judge_values-judged, After-width, Start}
use Rattle.refusals.specs.declared.Refusal.{Refusal}

-- what the stages said decides
module _ (m : After-judge_values-judged) where
  abbrev asked : Start
  asked = (goal.at.After-judge_values-judged m).Start

  abbrev meant : List ℕ
  meant = encode_body asked.args.stored (points_of Point asked.args.count (size asked.args.stored) asked.args.values.now)

  by : {j : Result ⊤ Refusal} → m.judge_values-judged.result ≡ j → let a = asked.args in
      write_ruled a.stored a.limited a.maximum a.count a.values.now a.wanted a.out.now ≡ put_where meant a.out.now j
  unfolding write_ruled
  by e = ap (put_where meant asked.args.out.now) (sym m.judge_values-judged.ensures ∙ e)

  pass : m.judge_values-judged.result ≡ Ok tt → let a = asked.args in Passes a.stored a.limited a.maximum a.count a.values.now
  pass e = let a = asked.args in passes a.stored a.limited a.maximum a.count a.values.now a.wanted (sym m.judge_values-judged.ensures ∙ e)

pub returns-in-Err : goal.returns-in-Err
unfolding put_where
returns-in-Err c = sym (by (goal.at.returns-in-Err c).After-judge_values-judged c.in-Err.is)

-- the length, by the count and the width
module _ (c : After-width) where
  abbrev from : After-judge_values-judged
  from = (goal.at.After-width c).After-judge_values-judged

  passed : let a = (asked from).args in Passes a.stored a.limited a.maximum a.count a.values.now
  passed = pass from c.in_default.is

  long : (asked from).args.count * c.width.result ≡ length (meant from)
  long =
      let a = (asked from).args in
      ap (λ w. a.count * w) c.width.ensures.0 ∙ sym (fits-length 1 a.stored Point a.count a.values.now passed.fitting)

pub overflow_mul-length : goal.overflow_mul-length
overflow_mul-length c =
    let z = mul-le-mul_right {m = (asked (from c)).args.count} {n = 16777215} c.width.result (fits-small _ _ (passed c).counted) in
    record { fits = omega (arith, z, c.width.ensures.1) }

pub returns-then-out-length : goal.returns-then-out-length
unfolding put_where
returns-then-out-length c =
    let w = (goal.at.returns-then-out-length c).After-width in
    let m = from w in
    sym (by m w.in_default.is ∙ rw (lt-leb (length (meant m)) (length (asked m).args.out.now) (omega (arith, long w))))

pub returns : goal.returns
unfolding put_where
returns c =
    let w = (goal.at.returns c).After-width in
    let m = from w in
    let a = (asked m).args in
    let h = put-laid 1 a.stored Point a.count a.values.now (passed w).fitting (record { enough = omega (arith, long w) }) c.put.ensures in
    ap₂ (λ n t. writing (Ok n) t) (long w) h.bytes
    ∙ sym (by m w.in_default.is ∙ rw (le-leb (length (meant m)) (length a.out.now) (omega (arith, long w))))
