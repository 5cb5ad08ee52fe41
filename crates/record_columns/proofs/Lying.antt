-- What becomes of a buffer, by how the record lies: the layout ends as reading does, and its points are those that are filled in.
use Rattle.std.specs.Prelude.{Ok, Err}
use mathlib.Core.Path.{◌≡◌, refl, sym, ap, subst, ◌∙◌}
use mathlib.Core.Bool.{true, false}
use mathlib.Core.List.{List}
use Prim.Native.Nat.{ℕ, ◌+◌, ◌*◌, ◌≤◌, ◌<◌}
use native.Mathlib.Omega.{arith}
use borrow.Author.Tests.{lt-ltb, le-ltb}
use lib.Dec.{eqb}
use lib.IntN.{ℤ}
use lib.ListN.{length}
use Rattle.formats.specs.Reader.{ok, run, read_at}
use Rattle.formats.proofs.FixedLaws.{fixed-times}
use Rattle.formats.specs.Told.{failed}
use Rattle.formats.specs.declared.Failure.{Failure}
use Rattle.formats.specs.declared.Failure.TheVariants.{Short, Bad}
use Rattle.refusals.specs.Table.{refusal_of}
use Rattle.refusals.specs.declared.Refusal.TheVariants.{LeftOver, Amount}
use Rattle.points.specs.Points.{point, width}
use Rattle.points.specs.Laws.{fixed-point}
use Rattle.orders.specs.Orders.{size}
use Rattle.orders.specs.declared.Order.TheVariants.{Column}
use Rattle.channels.specs.Descriptors.{stored}
use Rattle.records.specs.Record.{Record, full_record}
use Rattle.record_fronts.specs.Front.{front}
use Rattle.record_fronts.specs.Fronted.{fronted}
use Rattle.record_fronts.specs.declared.Front.{Front}
use Rattle.record_layouts.specs.Layout.{layout_at}
use Rattle.record_layouts.specs.LayoutLaws.{Lying, record-behind, failed-read}
use Rattle.record_layouts.specs.declared.Layout.{Layout}
use Rattle.record_columns.specs.Columns.{Filling, filling, amount, columns, columns_read}
use Rattle.record_columns.specs.Parts.{PointsFilled}

refused-of-failed : (bytes : ℕ) (values : List ℤ) (f : Failure) → filling (Err (refusal_of f)) values ≡ columns_read bytes (failed f) values
unfolding columns_read
refused-of-failed bytes values Short = refl
refused-of-failed bytes values (Bad k p) = refl

module _ (s : List ℕ) (values : List ℤ) where
  abbrev meant : Filling
  meant = columns_read (length s) (run full_record s) values

  pub no_record : {f : Failure} → layout_at s 0 ≡ Err f → filling (Err (refusal_of f)) values ≡ meant
  no_record {f} e = refused-of-failed (length s) values f ∙ sym (ap (λ x. columns_read (length s) x values) (failed-read s e))

  -- a record, behind its front
  module _ {f : Front} (q : fronted (read_at front s 0) ≡ Ok f) {l : Layout} (e : layout_at s 0 ≡ Ok l) where
    abbrev whole : Record
    whole = (record-behind s e q).0

    read : run full_record s ≡ ok whole l.end
    read = (record-behind s e q).1

    lying : Lying s f l whole
    lying = (record-behind s e q).2

    pub left_over : l.end < length s → filling (Err (LeftOver l.end)) values ≡ meant
    unfolding columns_read
    left_over h = sym (rw (read, lt-ltb l.end (length s) h))

    -- the points lie in the bytes
    pub points-within : f.points + l.count * width 2 f.stored ≤ length s
    points-within =
        let d = whole.description in
        let z = fixed-times (point 2 (stored d)) (width 2 (stored d)) (fixed-point 2 (stored d)) l.count s f.points whole.points l.extension lying.within lying.points in
        omega (arith, z, ap (λ flags. l.count * width 2 flags) lying.stores, lying.extended-within)

    -- their amount
    amount-is : l.count * size f.stored ≡ amount whole
    amount-is = ap (λ n. n * size f.stored) (sym lying.count) ∙ ap (λ flags. length whole.points * size flags) lying.stores

    module _ (all : length s ≤ l.end) where
      pub other-amount : eqb (length values) (l.count * size f.stored) ≡ false → filling (Err Amount) values ≡ meant
      unfolding columns_read
      other-amount h = sym (rw (read, le-ltb l.end (length s) all, ap (eqb (length values)) (sym amount-is) ∙ h))

      pub columns-filled : eqb (length values) (l.count * size f.stored) ≡ true → (after : List ℤ) → PointsFilled s f.points f.stored l.count Column after → filling (Ok tt) after ≡ meant
      unfolding columns_read
      columns-filled h after g =
          let z : after ≡ columns whole = subst (λ flags. PointsFilled s f.points flags l.count Column after) lying.stores g whole.points l.extension lying.points in
          ap (filling (Ok tt)) z ∙ sym (rw (read, le-ltb l.end (length s) all, ap (eqb (length values)) (sym amount-is) ∙ h))
