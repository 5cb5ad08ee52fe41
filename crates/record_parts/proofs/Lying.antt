-- Where the extended data lie and what follows a record, by its layout.
use Rattle.std.specs.Prelude.{Ok}
use mathlib.Core.Path.{◌≡◌, refl, ap}
use mathlib.Core.Bool.{true, false}
use mathlib.Core.List.{List}
use Prim.Native.Nat.{ℕ, ◌+◌, ◌-◌, ◌≤◌}
use native.Mathlib.Omega.{arith}
use lib.ListN.{length}
use Rattle.formats.specs.Reader.{ok, run}
use Rattle.formats.specs.Told.{failed}
use Rattle.formats.specs.declared.Failure.{Failure}
use Rattle.formats.specs.declared.Failure.TheVariants.{Short, Bad}
use Rattle.records.specs.Record.{Record, full_record}
use Rattle.record_layouts.specs.Layout.{layout_at}
use Rattle.record_layouts.specs.LayoutLaws.{Lying, record-read}
use Rattle.record_parts.specs.Parts.{extended_place, extended_size, rest_place, rest_size}
use Rattle.record_layouts.specs.declared.Layout.{Layout}

-- the parts of no record are the empty ones at the start
pub nowhere-lies : (size : ℕ) (f : Failure)
    → (extended_place (failed f) ≡ 0) × (extended_size (failed f) ≡ 0) × (rest_place (failed f) ≡ 0) × (rest_size size (failed f) ≡ 0)
unfolding extended_place extended_size rest_place rest_size
nowhere-lies size Short = (refl, refl, refl, refl)
nowhere-lies size (Bad k p) = (refl, refl, refl, refl)

module _ (s : List ℕ) {l : Layout} (e : layout_at s 0 ≡ Ok l) where
  abbrev whole : Record
  whole = (record-read s e).0

  read : run full_record s ≡ ok whole l.end
  read = (record-read s e).1

  lying : Lying s (record-read s e).2 l whole
  lying = (record-read s e).4

  pub ends-within : (l.extension ≤ l.end) × (l.end ≤ length s)
  ends-within = lying.extended-within

  pub extended-lies : l.announced ≡ true
      → (extended_place (run full_record s) ≡ l.extension + 2) × (extended_size (run full_record s) ≡ l.end - (l.extension + 2)) × (l.extension + 2 ≤ l.end)
  unfolding extended_place extended_size
  extended-lies t = let h = lying.extension.start t in rw read (omega arith, omega arith, omega arith)

  pub extended-empty : l.announced ≡ false → (extended_place (run full_record s) ≡ l.end) × (extended_size (run full_record s) ≡ 0)
  unfolding extended_place extended_size
  extended-empty t = let h = ap length (lying.extension.empty t).1 in rw read (omega arith, omega arith)

  pub rest-lies : (rest_place (run full_record s) ≡ l.end) × (rest_size (length s) (run full_record s) ≡ length s - l.end)
  unfolding rest_place rest_size
  rest-lies = rw read (refl, refl)
