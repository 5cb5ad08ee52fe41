-- `turning::turn_described` meets its contract: the front says where the points stand, the stages of the body decide, then the room of both outputs, and only then both are put.
use Rattle.std.specs.Prelude.{Result, Ok, Err, ⊤}
use mathlib.Core.Path.{◌≡◌, sym, ap, ◌∙◌}
use Prim.Native.Nat.{◌+◌, ◌*◌, ◌≤◌}
use native.Mathlib.Nat.{mul-le-mul_right}
use native.Mathlib.Omega.{arith}
use lib.ListN.{length}
use Rattle.formats.specs.Laid.{within-laid}
use Rattle.formats.specs.Reader.{ok, run, read_at}
use Rattle.formats.specs.Put.{puts}
use Rattle.records.specs.Record.{Record, full_record}
use Rattle.record_fronts.specs.Front as meant
use Rattle.record_fronts.specs.Fronted.{fronted}
use Rattle.record_fronts.specs.declared.Front.{Front}
use Rattle.turning.specs.Turning.{body_bytes, judged_body}
use Rattle.turning.proofs.Whole.{has-front, front-within, front_reads, front-judged, body-long, body_bytes_lem, turn-refused, turn-crowded, both-room, turn-done}
use borrow.Author.Rules.{rules}
use Rattle.turning.proofs.turn_described.Goals as goal
use Rattle.turning.proofs.turn_described.Goals.{After-unwrap-front, After-judge_body, After-width, Else-template-size, Start}
use Rattle.refusals.specs.declared.Refusal.{Refusal}

-- the front is that of the bytes
module _ (b : After-unwrap-front) where
  abbrev start : Start
  start = (goal.at.After-unwrap-front b).Start

  abbrev front : Front
  front = b.unwrap-front.result

  found : fronted (read_at meant.front start.args.whole.now 0) ≡ Ok front
  found = sym b.front_at.ensures ∙ search rules

-- a record has a front
pub unwrap-front-requires : goal.unwrap-front-requires
unwrap-front-requires c = rw (c.front_at.ensures ∙ (has-front _ c.requires.1).1)

pub judge_body-requires : goal.judge_body-requires
judge_body-requires c =
    let b = (goal.at.judge_body-requires c).After-unwrap-front in
    let p = (start b).requires in
    (front-within _ p.0 p.1 (found b), search rules, (p.0.points, _, front_reads _ p.0 p.1 (found b)))

-- what the stages said
module _ (m : After-judge_body) where
  abbrev from : After-unwrap-front
  from = (goal.at.After-judge_body m).After-unwrap-front

  module _ (r : Record) (q : run full_record (start from).args.whole.now ≡ ok r (length (start from).args.whole.now)) where
    judged : {j : Result ⊤ Refusal} → m.judge_body.result ≡ j → judged_body r ≡ j
    judged e =
        sym (front-judged _ r q (found from)) ∙ sym (m.judge_body.ensures r.points _ (front_reads _ r q (found from))) ∙ e

pub returns-in_err-judge_body : goal.returns-in_err-judge_body
returns-in_err-judge_body c r q =
    let gone : c.from_residual.result ≡ Err c.in_err-judge_body.field-0.0 = search rules in
    rw gone (turn-refused _ _ _ _ (judged (goal.at.returns-in_err-judge_body c).After-judge_body r q c.in_err-judge_body.was))

pub overflow_mul-length : goal.overflow_mul-length
overflow_mul-length c =
    let b = from (goal.at.overflow_mul-length c).After-judge_body in
    let z = mul-le-mul_right {m = (front b).count} {n = 4294967295} c.width.result (omega arith) in
    record { fits = omega (arith, z, c.width.ensures.1) }

-- the body's length, by the count and the width
module _ (w : After-width) where
  abbrev at : After-judge_body
  at = (goal.at.After-width w).After-judge_body

  module _ (r : Record) (q : run full_record (start (from at)).args.whole.now ≡ ok r (length (start (from at)).args.whole.now)) where
    passed : judged_body r ≡ Ok tt
    passed = judged at r q w.in_ok-judge_body.was

    long : (front (from at)).count * w.width.result ≡ length (body_bytes r)
    long = ap (λ n. (front (from at)).count * n) w.width.ensures.0 ∙ body-long _ r q (found (from at)) passed

pub returns-then-template-size : goal.returns-then-template-size
returns-then-template-size c r q = turn-crowded _ _ _ _ (passed (goal.at.returns-then-template-size c).After-width r q) (long (goal.at.returns-then-template-size c).After-width r q) c.if-template-size.true

-- there is room for both
module _ (e : Else-template-size) where
  abbrev asked : Start
  asked = start (from (at (goal.at.Else-template-size e).After-width))

  room : (length asked.args.described.now ≤ length asked.args.template.now) × ((front (from (at (goal.at.Else-template-size e).After-width))).count * e.width.result ≤ length asked.args.body.now)
  room =
      let a = asked.args in
      let p = asked.requires in
      both-room a.described.now (body_bytes p.0) a.template.now a.body.now (passed (goal.at.Else-template-size e).After-width p.0 p.1) (long (goal.at.Else-template-size e).After-width p.0 p.1) e.if-template-size.false

pub put_points-requires : goal.put_points-requires
put_points-requires c =
    let e = (goal.at.put_points-requires c).Else-template-size in
    let b = from (at (goal.at.Else-template-size e).After-width) in
    let p = (asked e).requires in
    (front-within _ p.0 p.1 (found b), rw (← e.width.ensures.0) (room e).1, (p.0.points, _, front_reads _ p.0 p.1 (found b)))

pub returns : goal.returns
returns c r q =
    let e = (goal.at.returns c).Else-template-size in
    let w = (goal.at.Else-template-size e).After-width in
    let b = from (at w) in
    let a = (asked e).args in
    let fits = passed w r q in
    let enough : 0 + length a.described.now ≤ length a.template.now = omega (arith, (room e).0) in
    turn-done a.described.now (body_bytes r) a.template.now a.body.now fits (long w r q) e.if-template-size.false
    (within-laid a.described.now (record { enough = enough }) c.put.ensures).bytes
    ((c.put_points.ensures r.points _ (front_reads _ r q (found b))).bytes ∙ ap (puts a.body.now 0) (body_bytes_lem _ r q (found b) fits))
