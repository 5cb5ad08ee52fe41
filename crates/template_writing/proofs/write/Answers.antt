-- `template_writing::write` meets its contract: whether a description is wanted, and how it was put aside, decides whether the template is written.
use Rattle.std.specs.Prelude.{Err}
use borrow.Author.Rules.{rules}
use mathlib.Core.Path.{◌≡◌, ap, ◌∙◌}
use mathlib.Core.Bool.{true}
use Prim.Native.Nat.{◌≤◌}
use native.Mathlib.Omega.{arith}
use lib.ListN.{replicate, length}
use Rattle.formats.specs.Lent.{writing}
use Rattle.descriptions.specs.Description.{encode_description}
use Rattle.description_writing.specs.Write.{put_if}
use Rattle.channels.specs.declared.Format.TheVariants.{Compact}
use Rattle.descriptions.specs.SizeLaws.{description-size}
use Rattle.description_writing.specs.AsideLaws.{aside-done, aside-refused}
use Rattle.template_writing.proofs.Laying.{unwanted-written, passed-written, refused-written}
use Rattle.template_writing.proofs.write.Goals as goal
use Rattle.template_writing.proofs.write.Goals.{After-put, Start}

pub returns-then-not-described : goal.returns-then-not-described
returns-then-not-described c =
    let a = c.args in
    c.write_fields.ensures ∙ unwanted-written a.described a.description a.limited a.maximum a.out.now c.if-not-described.true _

-- the description, put aside
module _ (m : After-put) where
  abbrev start : Start
  start = (goal.at.After-put m).Start

  is-wanted : start.args.described ≡ true
  is-wanted = m.if-not-described.false

  aside : writing m.put.result m.put.new.out ≡ put_if Compact start.args.description (replicate 114 0) 0
  aside = m.put.ensures

  fits : length (encode_description 1 start.args.description) ≤ 114
  fits = description-size 1 start.args.description

pub slice_bounds-bytes-end : goal.slice_bounds-bytes-end
slice_bounds-bytes-end c = let m = (goal.at.slice_bounds-bytes-end c).After-put in (aside-done Compact _ _ _ _ (aside m) (fits m) c.in_ok-end.was).1

pub write_fields-requires-2 : goal.write_fields-requires-2
write_fields-requires-2 c =
    let m = (goal.at.write_fields-requires-2 c).After-put in
    omega (arith, fits m, ap length (aside-done Compact _ _ _ _ (aside m) (fits m) c.in_ok-end.was).2)

pub returns : goal.returns
returns c =
    let m = (goal.at.returns c).After-put in
    let a = (start m).args in
    let f = aside-done Compact _ _ _ _ (aside m) (fits m) c.in_ok-end.was in
    c.write_fields-2.ensures ∙ passed-written a.described a.description a.limited a.maximum a.out.now (is-wanted m) _ f.2 f.0

pub returns-in_err-end : goal.returns-in_err-end
returns-in_err-end c =
    let m = (goal.at.returns-in_err-end c).After-put in
    let a = (start m).args in
    let gone : c.from_residual.result ≡ Err c.in_err-end.field-0.0 = search rules in
    rw gone (refused-written a.described a.description a.limited a.maximum a.out.now (is-wanted m) (aside-refused Compact _ _ _ _ (aside m) (fits m) c.in_err-end.was))
