-- `record_writing::write_in` meets its contract: how the description was put aside decides whether the record is written.
use Rattle.std.specs.Prelude.{Err}
use borrow.Author.Rules.{rules}
use mathlib.Core.Path.{◌≡◌, ◌∙◌}
use Prim.Native.Nat.{◌≤◌}
use lib.ListN.{replicate, length}
use Rattle.formats.specs.Lent.{writing}
use Rattle.descriptions.specs.Description.{encode_description}
use Rattle.channels.specs.declared.Format.TheVariants.{Full}
use Rattle.description_writing.specs.Write.{put_if}
use Rattle.descriptions.specs.SizeLaws.{description-size}
use Rattle.description_writing.specs.AsideLaws.{aside-done, aside-refused}
use Rattle.record_writing.proofs.WriteLaws.{described-written}
use Rattle.record_writing.proofs.Laying.{refused-written}
use Rattle.record_writing.proofs.write_in.Goals as goal
use Rattle.record_writing.proofs.write_in.Goals.{After-put, After-write_described, Start}

-- the description, put aside
module _ (m : After-put) where
  abbrev start : Start
  start = (goal.at.After-put m).Start

  aside : writing m.put.result m.put.new.out ≡ put_if Full start.args.description (replicate 178 0) 0
  aside = m.put.ensures

  fits : length (encode_description 2 start.args.description) ≤ 178
  fits = description-size 2 start.args.description

pub slice_bounds-described-end : goal.slice_bounds-described-end
slice_bounds-described-end c = let m = (goal.at.slice_bounds-described-end c).After-put in (aside-done Full _ _ _ _ (aside m) (fits m) c.in_ok-end.was).1

pub write_described-requires : goal.write_described-requires
write_described-requires c =
    let m = (goal.at.write_described-requires c).After-put in
    rw (aside-done Full _ _ _ _ (aside m) (fits m) c.in_ok-end.was).2 (fits m)

pub returns : goal.returns
returns c =
    let w = (goal.at.returns c).After-write_described in
    let m = (goal.at.After-write_described w).After-put in
    let a = aside-done Full _ _ _ _ (aside m) (fits m) w.in_ok-end.was in
    w.write_described.ensures ∙ described-written _ _ _ _ _ _ _ a.0 a.2 w.stored_channels-stored.ensures

pub returns-in_err-end : goal.returns-in_err-end
returns-in_err-end c =
    let m = (goal.at.returns-in_err-end c).After-put in
    let a = (start m).args in
    let gone : c.from_residual.result ≡ Err c.in_err-end.field-0.0 = search rules in
    rw gone (refused-written a.order a.description a.count a.values.now a.wanted a.extended.now a.out.now (aside-refused Full _ _ _ _ (aside m) (fits m) c.in_err-end.was))
