-- A description is passed where it is valid: its numbers are all in range exactly where `all_fit` says so.
use Rattle.std.specs.Prelude.{◌≡◌, Bool, true, ◌&&◌, ℕ, suc, T, length, Ok, None}
use Rattle.std.proofs.Math.Path.{refl}
use Rattle.std.proofs.Common.{◌∙◌}
use Rattle.std.proofs.Math.Bool.{false}
use mathlib.Core.List.{List, [], ◌∷◌}
use Rattle.std.specs.Float.Ieee.Bits.{is_true}
use Rattle.formats.specs.Bytes.{impossible}
use Rattle.refusals.specs.Stages.{require, or_else, stages, require-passed, or-else-passed, stages-passed}
use Rattle.refusals.specs.Ranges.{first_misfit}
use Rattle.refusals.proofs.RangeLaws.{passed-fit, fit_passed, joined}
use Rattle.refusals.specs.declared.Refusal.TheVariants.{XOrY, Untidy}
use Rattle.channels.specs.Channel.{is_same, signed_of, width_of, same-is, is_same_lem}
use Rattle.channels.specs.declared.Descriptor.{Descriptor}
use Rattle.channels.specs.declared.Description.{Description}
use Rattle.channels.specs.declared.Format.{Format}
use Rattle.descriptions.specs.Description.{includes_xy, fits_attribute, fits_descriptor, every, neat, all_fit, tidy, Valid}
use Rattle.descriptions.proofs.EncodedLaws.{tidy-neat, tidy-marked, tidy-fits}
use Rattle.description_judging.specs.Judging.{numbers_of, numbers_from, numbers, neat_in, judgement_of}
use Rattle.description_judging.specs.Marks.{PassesTidy}

-- ---- The numbers

pub both : (a b : Bool) → (a && b) ≡ true → (a ≡ true) × (b ≡ true)
both true b e = (refl, e)
both false b e = impossible (cc)

-- five tests that hold together each hold
pub all-five : (a b c d e : Bool) → (a && b && c && d && e) ≡ true → (a ≡ true) × ((b ≡ true) × ((c ≡ true) × ((d ≡ true) × ((e ≡ true) × Unit {0}))))
all-five a b c d e h =
    let x = both (a && b && c && d) e h in
    let y = both (a && b && c) d x.0 in
    let z = both (a && b) c y.0 in
    let u = both a b z.0 in
    (u.0, (u.1, (z.1, (y.1, (x.1, tt)))))

-- of a descriptor
module _ (w channel : ℕ) (d : Descriptor) where
  of-passed : fits_descriptor w channel d ≡ true → first_misfit (numbers_of w channel d) ≡ Ok tt
  unfolding numbers_of fits_descriptor
  of-passed e =
      fit_passed
      (numbers_of w channel d)
      (all-five
      (fits_attribute 2 false d.scaling)
      (fits_attribute w (signed_of channel) d.minimum)
      (fits_attribute w (signed_of channel) d.maximum)
      (fits_attribute w (signed_of channel) d.mean)
      (fits_attribute w false d.deviation)
      e)

  of-fit : first_misfit (numbers_of w channel d) ≡ Ok tt → fits_descriptor w channel d ≡ true
  unfolding numbers_of fits_descriptor
  of-fit e =
      let x = passed-fit _ e in
      rw (x.0, x.1.0, x.1.1.0, x.1.1.1.0, x.1.1.1.1.0)

module _ (w : ℕ) where
  -- of the channels from i on
  from-fit : (i : ℕ) (ds : List Descriptor) → first_misfit (numbers_from w i ds) ≡ Ok tt → every (fits_descriptor w) i ds ≡ true
  unfolding numbers_from every
  from-fit i [] e = refl
  from-fit i (d ∷ ds) e =
      let x = or-else-passed (first_misfit (numbers_of w i d)) (first_misfit (numbers_from w (suc i) ds)) (rw (joined (numbers_of w i d) (numbers_from w (suc i) ds)) at e) in
      rw (of-fit w i d x.0) (from-fit (suc i) ds x.1)

  from-passed : (i : ℕ) (ds : List Descriptor) → every (fits_descriptor w) i ds ≡ true → first_misfit (numbers_from w i ds) ≡ Ok tt
  unfolding numbers_from every first_misfit or_else
  from-passed i [] e = refl
  from-passed i (d ∷ ds) e =
      let x = both (fits_descriptor w i d) (every (fits_descriptor w) (suc i) ds) e in
      joined (numbers_of w i d) (numbers_from w (suc i) ds) ∙ rw (of-passed w i d x.0) (from-passed (suc i) ds x.1)

  -- no number is named exactly where all fit
  pub none_named : (d : Description) → first_misfit (numbers w d) ≡ Ok tt → all_fit w d ≡ true
  unfolding numbers all_fit
  none_named d e = from-fit 0 d.channels e

  pub all_pass : (d : Description) → all_fit w d ≡ true → first_misfit (numbers w d) ≡ Ok tt
  unfolding numbers all_fit
  all_pass d e = from-passed 0 d.channels e

-- ---- The stages

-- the tests of a description that is passed
pub record Sound (format : Format) (d : Description) : Type 0 where
  pub xy : T (includes_xy d)
  pub marked : d.mark ≡ format
  pub neat : T (neat d)
  pub ranges : T (all_fit (width_of format) d)

holds : {t : Bool} → t ≡ true → T t
holds e = rw e tt

module _ (format : Format) (d : Description) where
  pub passed-sound : judgement_of format d ≡ Ok tt → Sound format d
  unfolding judgement_of neat_in
  passed-sound e =
      let s = stages-passed _ e in
      let named : require (includes_xy d) (XOrY None) ≡ (Ok tt) = cc in
      let written : require (neat_in format d) Untidy ≡ (Ok tt) = cc in
      let ranged : first_misfit (numbers (width_of format) d) ≡ (Ok tt) = cc in
      let n = both (is_same d.mark format) (neat d) (require-passed _ _ written) in
      record { xy = holds (require-passed _ _ named); marked = same-is d.mark format n.0; neat = holds n.1; ranges = holds (none_named (width_of format) d ranged) }

  -- passed and sixteen channels: that is to be valid
  pub passed-valid : judgement_of format d ≡ Ok tt → length d.channels ≡ 16 → Valid format d
  passed-valid e h = let s = passed-sound e in record { sixteen = h; xy = s.xy; marked = s.marked; tidy = tidy-marked format d s.marked s.neat s.ranges }

  sound-passed : Sound format d → judgement_of format d ≡ Ok tt
  unfolding judgement_of neat_in stages or_else require
  sound-passed s =
      rw (is_true (includes_xy d) s.xy, is_same_lem d.mark format s.marked, is_true (neat d) s.neat, all_pass (width_of format) d (is_true (all_fit (width_of format) d) s.ranges))

  tidy-sound : T (includes_xy d) → d.mark ≡ format → T (tidy d) → Sound format d
  tidy-sound h e t = record { xy = h; marked = e; neat = tidy-neat d t; ranges = tidy-fits format d e t }

  pub valid-passed : Valid format d → (judgement_of format d ≡ Ok tt) × (length d.channels ≡ 16)
  valid-passed v = (sound-passed (tidy-sound v.xy v.marked v.tidy), v.sixteen)

pub passes-tidy : PassesTidy
passes-tidy format d = (
  λ e. let s = passed-sound format d e in (s.xy, (s.marked, tidy-marked format d s.marked s.neat s.ranges)),
  λ h. sound-passed format d (tidy-sound format d h.0 h.1.0 h.1.1),
)
