-- `template_writing::write_fields` meets its contract: the two tests are the definition's, and no sum is too large.
use Rattle.std.specs.Prelude.{Ok}
use mathlib.Core.Path.{◌≡◌, sym, ap₂, ◌∙◌}
use mathlib.Core.Bool.{false}
use mathlib.Core.List.{List}
use Prim.Native.Nat.{ℕ, ◌+◌, ◌≤◌}
use native.Mathlib.Nat.{zero-add}
use native.Mathlib.Omega.{arith}
use borrow.Author.Tests.{le-leb, lt-leb}
use lib.ListN.{length, length-append}
use Rattle.formats.specs.Lent.{writing}
use Rattle.templates.specs.Template.{encode_limited}
use Rattle.refusals.specs.Stages.{require}
use Rattle.template_writing.specs.Writing.{put_where, exceeds, in_room, described_bytes, template_bytes, write_fields}
use Rattle.template_writing.proofs.Laying.{template-length, put_first}
use Rattle.template_writing.proofs.write_fields.Goals as goal
use Rattle.template_writing.proofs.write_fields.Goals.{After-limited_size, After-put_template-end, Else-exceeds, Start}

pub returns-then-exceeds : goal.returns-then-exceeds
unfolding write_fields put_where require
returns-then-exceeds c = rw (sym c.exceeds.ensures ∙ c.if-exceeds.true)

module _ (m : After-limited_size) where
  abbrev start : Start
  start = (goal.at.After-limited_size m).Start

  abbrev whole : List ℕ
  whole = let a = start.args in template_bytes a.described a.bytes.now a.limited a.maximum

  small : exceeds start.args.limited start.args.maximum ≡ false
  small = let e = (goal.at.After-limited_size m).Else-exceeds in sym e.exceeds.ensures ∙ e.if-exceeds.false

  size : length whole ≡ 2 + (m.described_size.result + m.limited_size.result)
  size =
      let a = start.args in
      omega (arith, template-length a.described a.bytes.now a.limited a.maximum, m.described_size.ensures.0, m.limited_size.ensures.0)

pub returns-then-out-length : goal.returns-then-out-length
unfolding write_fields put_where in_room require
returns-then-out-length c =
    let m = (goal.at.returns-then-out-length c).After-limited_size in
    rw (small m, lt-leb (length (whole m)) (length (start m).args.out.now) (omega (arith, size m)))

pub put_template-end-requires : goal.put_template-end-requires
put_template-end-requires c =
    let m = (goal.at.put_template-end-requires c).After-limited_size in
    let a = (start m).args in (
      omega (arith, m.described_size.ensures.1, m.limited_size.ensures.1),
      (start m).requires,
      record { enough = omega (arith, size m) },
      omega (arith, m.described_size.ensures.0, m.limited_size.ensures.0, length-append (described_bytes a.described a.bytes.now) (encode_limited a.limited a.maximum)),
    )

pub returns : goal.returns
unfolding write_fields put_where in_room require
returns c =
    let p = (goal.at.returns c).After-put_template-end in
    let m = (goal.at.After-put_template-end p).After-limited_size in
    let out = (start m).args.out.now in
    let room : length (whole m) ≤ length out = omega (arith, size m) in
    rw (small m, le-leb (length (whole m)) (length out) room)
    (ap₂ (λ n t. writing (Ok n) t) (p.put_template-end.ensures.place ∙ zero-add (length (whole m))) (p.put_template-end.ensures.bytes ∙ put_first out (whole m) room))
