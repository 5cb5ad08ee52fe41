-- `record_writing::write_described` meets its contract: what the stages say, and then the room, decides what becomes of the output.
use borrow.Author.Rules.{rules}
use Rattle.std.specs.Prelude.{Result, Ok, Err, ⊤}
use mathlib.Core.Path.{◌≡◌, sym, ap, ap₂, ◌∙◌}
use mathlib.Core.Bool.{cond}
use mathlib.Core.List.{List}
use mathlib.Core.Option.{some, none}
use Prim.Native.Nat.{ℕ, ◌+◌, ◌*◌}
use native.Mathlib.Omega.{arith}
use lib.ListN.{length}
use borrow.Author.Tests.{le-leb, lt-leb}
use Rattle.formats.specs.Lent.{writing}
use Rattle.records.specs.Record.{encode_extended}
use Rattle.record_writing.specs.Write.{put_where, NumbersPass}
use Rattle.record_writing.specs.Parts.{record_bytes, write_described}
use Rattle.record_writing.proofs.WriteLaws.{numbers-pass, bytes-length}
use Rattle.record_writing.proofs.write_described.Goals as goal
use Rattle.record_writing.proofs.write_described.Goals.{After-judge_values, After-put_record, After-record_size-length, In_ok-judge_values, Start}
use Rattle.refusals.specs.declared.Refusal.{Refusal}

-- what the stages said decides
module _ (m : After-judge_values) where
  abbrev asked : Start
  asked = (goal.at.After-judge_values m).Start

  abbrev meant : List ℕ
  meant = record_bytes asked.args.order asked.args.described.now asked.args.stored asked.args.count asked.args.values.now asked.args.wanted asked.args.extended.now

  by : {j : Result ⊤ Refusal} → m.judge_values.result ≡ j
      → write_described asked.args.order asked.args.described.now asked.args.stored asked.args.count asked.args.values.now asked.args.wanted asked.args.extended.now asked.args.out.now
      ≡ put_where meant asked.args.out.now j
  unfolding write_described
  by e = ap (put_where meant asked.args.out.now) (sym m.judge_values.ensures ∙ e)

  pass : m.judge_values.result ≡ Ok tt → NumbersPass asked.args.order asked.args.stored asked.args.count asked.args.values.now asked.args.wanted asked.args.extended.now
  pass e = numbers-pass asked.args.order asked.args.stored asked.args.count asked.args.values.now asked.args.wanted asked.args.extended.now (sym m.judge_values.ensures ∙ e)

pub returns-in_err-judge_values : goal.returns-in_err-judge_values
unfolding put_where
returns-in_err-judge_values c =
    let m = (goal.at.returns-in_err-judge_values c).After-judge_values in
    let gone : c.from_residual.result ≡ Err c.in_err-judge_values.field-0.0 = search rules in
    rw gone (sym (by m c.in_err-judge_values.was))

pub record_size-length-requires : goal.record_size-length-requires
record_size-length-requires c =
    let e = (goal.at.record_size-length-requires c).In_ok-judge_values in
    let m = (goal.at.In_ok-judge_values e).After-judge_values in
    let q = pass m e.in_ok-judge_values.was in
    ((asked m).requires, c.width-width.ensures.1, q.counted, q.small)

-- the size, by its parts
module _ (c : After-record_size-length) where
  abbrev passed : In_ok-judge_values
  passed = (goal.at.After-record_size-length c).In_ok-judge_values

  abbrev from : After-judge_values
  from = (goal.at.In_ok-judge_values passed).After-judge_values

  abbrev extra : ℕ
  extra = length (encode_extended (cond (asked from).args.wanted (some (asked from).args.extended.now) none))

  size : c.record_size-length.result ≡ length (meant from)
  size =
      let a = (asked from).args in
      c.record_size-length.ensures
      ∙ ap (λ y. length a.described.now + a.count * y + extra + 13) c.width-width.ensures.0
      ∙ bytes-length a.order a.stored a.count a.values.now a.wanted a.extended.now a.described.now (pass from passed.in_ok-judge_values.was).fitting

pub returns-then-out-length : goal.returns-then-out-length
unfolding put_where
returns-then-out-length c =
    let r = (goal.at.returns-then-out-length c).After-record_size-length in
    let e = (goal.at.After-record_size-length r).In_ok-judge_values in
    let m = (goal.at.In_ok-judge_values e).After-judge_values in
    sym (by m e.in_ok-judge_values.was ∙ rw (lt-leb (length (meant m)) (length (asked m).args.out.now) (omega (arith, size r))))

pub put_record-requires : goal.put_record-requires
put_record-requires c =
    let r = (goal.at.put_record-requires c).After-record_size-length in
    let e = (goal.at.After-record_size-length r).In_ok-judge_values in
    let m = (goal.at.In_ok-judge_values e).After-judge_values in
    (pass m e.in_ok-judge_values.was, record { enough = omega (arith, size r) })

pub returns : goal.returns
unfolding put_where
returns c =
    let q = (goal.at.returns c).After-put_record in
    let r = (goal.at.After-put_record q).After-record_size-length in
    let m = (goal.at.After-put_record q).After-judge_values in
    ap₂ (λ n t. writing (Ok n) t) (size r) q.put_record.ensures.bytes
    ∙ sym (by m q.in_ok-judge_values.was ∙ rw (le-leb (length (meant m)) (length (asked m).args.out.now) (omega (arith, size r))))
