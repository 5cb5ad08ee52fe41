-- What a body that is written has passed, and that it is a body: stage by stage.
use Rattle.std.specs.Prelude.{◌≡◌, refl, Bool, true, false, ◌&&◌, ◌||◌, List, ℕ, zero, suc, ◌≤◌, ◌<◌, eqb, leb, ltb, ℤ, Ok}
use Rattle.std.proofs.Common.{◌∙◌, arith}
use borrow.Author.Tests.{not-true, eqb-true, le-leb, leb-true, lt-ltb, ne_eqb}
use Rattle.formats.specs.Bytes.{impossible}
use Rattle.refusals.specs.Stages.{require, or_else, stages, compactly, require-passed, compactly-passed, stages-passed}
use Rattle.points.specs.Points.{width}
use Rattle.orders.specs.Orders.{size, points_of}
use Rattle.orders.proofs.OrderLaws.{points-many}
use Rattle.orders.specs.declared.Order.TheVariants.{Point}
use Rattle.values.specs.Values as values
use Rattle.values.proofs.ValueLaws.{fits-valid}
use Rattle.bodies.specs.Body.{ValidBody}
use Rattle.bodies.proofs.BodyLaws.{no-points}
use Rattle.bodies.specs.Reading.{exceeds}
use Rattle.bodies.specs.Writing.{count_fits, judgement_by}

-- a count fits where it is small, and there are points only where they have bytes
pub count_fits_lem : (count w : ℕ) → count < 16777216 → (w ≡ 0 → count ≡ 0) → count_fits count w ≡ true
unfolding count_fits
count_fits_lem zero w h g = refl
count_fits_lem (suc n) zero h g = absurd (omega (arith, g refl))
count_fits_lem (suc n) (suc w) h g = rw (le-leb (suc n) 16777215 (omega arith), ne_eqb (suc n) 0 (λ z. omega arith), lt-ltb 0 (suc w) (omega arith))

pub fits-small : (count w : ℕ) → count_fits count w ≡ true → count ≤ 16777215
unfolding count_fits
fits-small count w e = leb-true count 16777215 (go (leb count 16777215) _ e)
  where
    go : (a b : Bool) → (a && b) ≡ true → a ≡ true
    go true b q = refl
    go false b q = impossible (cc)

fits-wide : (count w : ℕ) → count_fits count w ≡ true → w ≡ 0 → count ≡ 0
unfolding count_fits
fits-wide count w e z = go (leb count 16777215) (eqb count 0) refl (rw z at e)
  where
    go : (small none : Bool) → eqb count 0 ≡ none → (small && (none || ltb 0 0)) ≡ true → count ≡ 0
    go small true h q = eqb-true count 0 h
    go true false h q = impossible (cc)
    go false false h q = impossible (cc)

module _ (flags : List Bool) (limited : Bool) (maximum count : ℕ) (numbers : List ℤ) where
  abbrev asked : List (List ℤ)
  asked = points_of Point count (size flags) numbers

  -- what holds where all are passed; and where nothing else is wanted, all are
  pub record Passes : Type 0 where
    pub counted : count_fits count (width 1 flags) ≡ true
    pub fitting : values.judgement_of 1 flags Point count numbers ≡ Ok tt
    pub allowed : exceeds limited maximum count ≡ false

  pub passes : (wanted : Bool) → judgement_by flags limited maximum count numbers wanted ≡ Ok tt → Passes
  unfolding judgement_by
  passes wanted e =
      let x = stages-passed _ e in
      record {
        counted = require-passed _ _ x.0;
        fitting = compactly-passed _ x.1.0;
        allowed = not-true _ (require-passed _ _ x.1.1.1.0);
      }

  pub passing : Passes → judgement_by flags limited maximum count numbers false ≡ Ok tt
  unfolding judgement_by stages or_else require compactly
  passing x = rw (x.counted, x.fitting, x.allowed)

  -- so what passes is a body
  pub passes-valid : Passes → ValidBody flags asked
  passes-valid x = record {
    each = (fits-valid 1 flags Point count numbers x.fitting).1;
    traced = λ z. no-points asked (points-many Point count (size flags) numbers ∙ fits-wide count (width 1 flags) x.counted z);
  }
