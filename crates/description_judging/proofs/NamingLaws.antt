-- The number that is named is the first out of its range: the stages before are passed, and a number whose flag is clear is in its range.
use Rattle.std.specs.Prelude.{◌≡◌, refl, Bool, not, ◌||◌, length, get_or, Result, Ok, Err, None, ⊤}
use Rattle.std.proofs.Common.{sym, ap, ◌∙◌, zero-add}
use Rattle.std.proofs.Math.Bool.{true, false}
use mathlib.Core.List.{List, [], ◌∷◌}
use Prim.Native.Nat.{ℕ, suc, ◌+◌, ◌<◌}
use native.Mathlib.Omega.{arith}
use Rattle.std.proofs.Math.Dec.{T}
use Rattle.std.specs.Float.Ieee.Bits.{is_true}
use Rattle.formats.specs.Bytes.{impossible}
use Rattle.formats.specs.Writes.{All, all_append}
use Rattle.refusals.specs.Stages.{require, or_else, stages, or-else-last}
use Rattle.refusals.specs.Ranges.{Ranged, first_misfit}
use Rattle.refusals.proofs.RangeLaws.{named-first, first-named, of-first}
use Rattle.refusals.specs.declared.AttributeName.{AttributeName}
use Rattle.refusals.specs.declared.AttributeName.TheVariants.{Scaling, Minimum, Maximum, Mean, Deviation}
use Rattle.refusals.specs.declared.Quantity.{Quantity}
use Rattle.refusals.specs.declared.Quantity.TheVariants as quantity
use Rattle.refusals.specs.declared.Refusal.TheVariants.{XOrY, Untidy, OutOfRange}
use Rattle.channels.specs.Channel.{width_of}
use Rattle.channels.specs.Descriptors.{absent}
use Rattle.channels.specs.declared.Attribute.{Attribute}
use Rattle.channels.specs.declared.Descriptor.{Descriptor}
use Rattle.channels.specs.declared.Description.{Description}
use Rattle.channels.specs.declared.Format.{Format}
use Rattle.descriptions.specs.Description.{includes_xy, fits_attribute}
use Rattle.description_judging.specs.Judging.{numbers_of, numbers_from, numbers, neat_in, judgement_of}
use Rattle.description_judging.specs.Naming.{NamesFirst, attribute_of, GivenAttribute, NamesGiven}
use Rattle.refusals.specs.declared.Refusal.{Refusal}

-- ---- The first

module _ (format : Format) (d : Description) where
  -- a description of the format that includes X and Y and is tidy is judged by its numbers
  pub by-numbers : T (includes_xy d) → T (neat_in format d) → judgement_of format d ≡ first_misfit (numbers (width_of format) d)
  unfolding judgement_of stages or_else require
  by-numbers xy neat = rw (is_true (includes_xy d) xy, is_true (neat_in format d) neat) (or-else-last (first_misfit (numbers (width_of format) d)))

  -- 4 and 11 name no number: of any other description 12 is not said, whatever is judged behind it
  pub tidy-first : (next : Result ⊤ Refusal) (name : Quantity) → or_else (judgement_of format d) next ≡ Err (OutOfRange name) → T (includes_xy d) × T (neat_in format d)
  unfolding judgement_of stages or_else require
  tidy-first next name e = go (includes_xy d) (neat_in format d) e
    where
      go : (xy neat : Bool) → or_else (stages (require xy (XOrY None) ∷ require neat Untidy ∷ first_misfit (numbers (width_of format) d) ∷ [])) next ≡ Err (OutOfRange name) → T xy × T neat
      go true true h = (tt, tt)
      go true false h = impossible (cc)
      go false neat h = impossible (cc)

pub names-first : NamesFirst
names-first format d name =
    let w = width_of format in (
      λ e. let x = tidy-first format d (Ok tt) name (or-else-last (judgement_of format d) ∙ sym e) in (x.0, (x.1, named-first (numbers w d) name (sym (e ∙ by-numbers format d x.0 x.1)))),
      λ h. sym (by-numbers format d h.0 h.1.0 ∙ first-named (numbers w d) name h.1.1),
    )

-- ---- Its flag

flagged : (w : ℕ) (signed : Bool) (a : Attribute) → fits_attribute w signed a ≡ false → a.given ≡ true
unfolding fits_attribute
flagged w signed a e = go a.given _ e
  where
    go : (t u : Bool) → (not t || u) ≡ false → t ≡ true
    go true u h = refl
    go false u h = impossible (cc)

-- where it does not fit, it is an attribute that is given
module _ (d : Description) where
  abbrev Flagged : Ranged → Type 0
  Flagged number = number.fits ≡ false → GivenAttribute d number.name

  module _ (w i : ℕ) (there : i < length d.channels) (this : Descriptor) (stands : get_or d.channels i absent ≡ this) where
    given-as : (attribute : AttributeName) → (attribute_of attribute this).given ≡ true → GivenAttribute d (quantity.Attribute i attribute)
    given-as attribute g = record { channel = i; attribute = attribute; is = refl; there = there; given = ap (λ c. (attribute_of attribute c).given) stands ∙ g }

    of-channel : All Flagged (numbers_of w i this)
    unfolding numbers_of
    of-channel = (
      λ e. given-as Scaling (flagged _ _ this.scaling e),
      (
        λ e. given-as Minimum (flagged _ _ this.minimum e),
        (
          λ e. given-as Maximum (flagged _ _ this.maximum e),
          (
            λ e. given-as Mean (flagged _ _ this.mean e),
            (
              λ e. given-as Deviation (flagged _ _ this.deviation e),
              tt,
            ),
          ),
        ),
      ),
    )

  -- some descriptors stand from channel i on
  abbrev Stand : ℕ → List Descriptor → Type 0
  Stand i ds = (k : ℕ) → k < length ds → (i + k < length d.channels) × (get_or d.channels (i + k) absent ≡ get_or ds k absent)

  of-channels : (w i : ℕ) (ds : List Descriptor) → Stand i ds → All Flagged (numbers_from w i ds)
  unfolding numbers_from
  of-channels w i [] h = tt
  of-channels w i (this ∷ ds) h =
      let z : i + 0 ≡ i = omega arith in
      let x = h 0 (omega arith) in
      all_append
      Flagged
      (numbers_of w i this)
      (numbers_from w (suc i) ds)
      (of-channel w i (rw z at x.0) this (rw z at x.1))
      (of-channels w (suc i) ds (λ k q. let y : suc i + k ≡ i + suc k = omega arith in rw y (h (suc k) (omega arith))))

pub names-given : NamesGiven
unfolding numbers
names-given format d name e =
    let w = width_of format in
    let x = (names-first format d name).0 e in
    of-first (Flagged d) (numbers w d) name (of-channels d w 0 d.channels (λ k q. let z : 0 + k ≡ k = zero-add k in rw z (q, refl))) x.1.1 refl
