-- A walk over a file of joined records gives its cut into records, and there is only one.
-- The statements speak of `IsRecord`, which is about what is written; `Gives` says what it is for a walk to give a cut.
use Rattle.std.specs.Prelude.{◌≡◌, length, get_or, None}
use Rattle.std.proofs.Math.Path.{refl, ap}
use Rattle.std.proofs.Common.{sym, ◌∙◌, arith, take_all}
use mathlib.Core.List.{List, [], flatten}
use Prim.Native.Nat.{ℕ, zero, suc, ◌≤◌, ◌<◌}
use Rattle.std.proofs.Math.Seq.{take-length}
use Rattle.std.specs.Borrow.{Bor}
use Rattle.formats.specs.Bytes.{Bytes}
use Rattle.formats.specs.Writes.{All}
use Rattle.records.specs.Record.{IsRecord}
use Rattle.records.specs.Demands.{one_way}
use Rattle.walks.specs.Walk.{step_of, place_after, step_of_walk, moved, walker_after, start_of, record_of, Gives}
use Rattle.walks.specs.StepLaws.{all-at, from_start, next_start, step-record, step_end, end-there, Covered, covers}
use Rattle.walks.specs.declared.Step.{Step}
use Rattle.walks.specs.declared.Walker.{Walker}

-- ---- Over whole records the steps give exactly their cut

module _ (bs : List (List ℕ)) (records : All IsRecord bs) where
  there : (k : ℕ) → k < length bs → (x : IsRecord (get_or bs k [])) → step_of (flatten bs) (start_of bs k) ≡ record { found = record_of x; next = start_of bs (suc k) }
  there k h x = rw (next_start bs k h) (step-record (flatten bs) (start_of bs k) _ x (from_start bs k h))

  starts : (k : ℕ) → k ≤ length bs → place_after (flatten bs) k ≡ start_of bs k
  unfolding place_after flatten
  starts zero h = refl
  starts (suc k) h =
      ap (λ (place : ℕ). (step_of (flatten bs) place).next) (starts k (omega arith))
      ∙ ap (λ (s : Step). s.next) (there k (omega arith) (all-at IsRecord bs records k (omega arith)))

  pub gives-the-cut : Gives (flatten bs) bs
  gives-the-cut = record {
    starts = starts;
    answers = λ k h x. rw (starts k (omega arith)) (there k h x);
    ends = rw (starts (length bs) (omega arith), take-length bs) (step_end (flatten bs) (length (flatten bs)) (omega arith));
  }

-- ---- A walk that comes to the end has cut the file into records

module _ (file : List ℕ) (bytes : Bytes file) where
  -- however many steps were made, whole records lie behind
  covered : (k : ℕ) → Covered file (place_after file k)
  unfolding place_after flatten
  covered zero = record { within = omega arith; cut = []; records = tt; joined = refl }
  covered (suc k) = covers file bytes (place_after file k) (covered k)

  pub end-has-cut : (k : ℕ) → (step_of_walk file k).found ≡ None
      → (bs : List (List ℕ)) × All IsRecord bs × (flatten bs ≡ file) × Gives file bs × ((cs : List (List ℕ)) → All IsRecord cs → flatten cs ≡ file → cs ≡ bs)
  end-has-cut k e =
      let p = covered k in
      let bs = p.cut in
      let whole : flatten bs ≡ file = p.joined ∙ take_all (place_after file k) file (end-there file (place_after file k) e) in
      (bs, p.records, whole, rw whole at (gives-the-cut bs p.records), λ cs h g. one_way cs bs h p.records (g ∙ sym whole))

-- ---- A walker walks as the plain walk does

-- made of a file, it stands after k steps where the plain walk stands, over the same file; so what is said above holds of its steps
pub walker-stands : (file : Bor (List ℕ)) (k : ℕ) → ◌≡◌ {A = Walker} (walker_after file k) (record { file = file; place = place_after file.now k })
unfolding walker_after place_after
walker-stands file zero = refl
walker-stands file (suc k) = ap moved (walker-stands file k)
