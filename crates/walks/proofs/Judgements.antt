-- A step, by the verdict on what stands at its place.
use Rattle.std.specs.Prelude.{Ok, None, Result}
use mathlib.Core.Path.{◌≡◌, refl, sym, ap, ◌∙◌}
use mathlib.Core.Bool.{Bool}
use mathlib.Core.List.{List}
use Prim.Native.Nat.{ℕ, ◌+◌, ◌-◌, ◌≤◌, ◌<◌}
use native.Mathlib.Omega.{arith}
use lib.ListN.{length}
use borrow.Author.Tests.{lt-ltb, le-ltb}
use Rattle.formats.specs.Bytes.{impossible}
use Rattle.formats.specs.Reader.{Answer, ok, short, bad, read_at}
use Rattle.formats.proofs.Ends.{at-within}
use Rattle.records.specs.Record.{Record, full_record}
use Rattle.record_reading.specs.Extents.{one_extent}
use Rattle.record_reading.specs.Verdict.{verdict_from}
use Rattle.record_reading.specs.declared.Extent.{Extent}
use Rattle.walks.specs.Walk.{stays, stepped, step_of}
use Rattle.refusals.specs.declared.Refusal.{Refusal}

pub at-end : (file : List ℕ) (place : ℕ) → length file ≤ place → stays None place ≡ step_of file place
unfolding step_of
at-end file place h = rw (le-ltb place (length file) h)

module _ (file : List ℕ) (place : ℕ) (inside : place < length file) {v : Result Extent Refusal} (e : v ≡ verdict_from place (read_at full_record file place)) where
  -- what is judged there is the step
  pub step-there : stepped place v ≡ step_of file place
  unfolding step_of
  step-there = ap (stepped place) e ∙ rw (lt-ltb place (length file) inside)

  ends : (x : Answer Record) → read_at full_record file place ≡ x → {extent : Extent} → Ok extent ≡ verdict_from place x → place + extent.length ≤ length file
  unfolding verdict_from
  ends (ok r m) q {extent} g =
      let w = at-within full_record file place q (omega arith) in
      let z : extent.length ≡ m - place = ap (λ (x : Extent). x.length) (one_extent g) in
      omega (arith, w.0, w.1)
  ends short q g = impossible (cc)
  ends (bad k p) q g = impossible (cc)

  -- and a record ends in the file
  pub record-ends : {extent : Extent} → v ≡ Ok extent → place + extent.length ≤ length file
  record-ends g = ends (read_at full_record file place) refl (sym g ∙ e)
