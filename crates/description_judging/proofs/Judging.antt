-- Facts of a description that is judged: a number that is zero; two tests that are made in one look; and a test of the sixteen channels, one at a time.
use Rattle.std.specs.Prelude.{Ok}
use mathlib.Core.Path.{◌≡◌, refl, sym, ap, ◌∙◌}
use mathlib.Core.Bool.{Bool, true, false, not, cond, ◌&&◌, ◌||◌, and-false, and_assoc}
use mathlib.Core.List.{List, [], ◌∷◌}
use Prim.Native.Nat.{ℕ, zero, suc, ◌+◌, ◌-◌, ◌^◌, ◌≤◌, ◌<◌}
use native.Mathlib.Numerals.{add-one}
use native.Mathlib.Omega.{arith}
use borrow.Author.Tests.{ne_eqb}
use lib.Dec.{T, eqb, leb-zero, leb-suc-zero}
use lib.IntN.{ℤ, pos, negsuc, nat_abs}
use lib.Ieee.Bits.{is_true}
use lib.ListN.{length, drop, get_or, drop_of_length-le}
use lib.Seq.{drop-cons}
use lib.Signed.{le_z}
use mir.Syntax.{w32}
use mir.Val.{SFits, to_z, of_z}
use mir.ValLaws.{to_z_pos}
use Rattle.refusals.specs.Stages.{or_else}
use Rattle.refusals.specs.Ranges.{first_misfit}
use Rattle.refusals.proofs.RangeLaws.{joined}
use Rattle.channels.specs.Channel.{signed_of}
use Rattle.channels.specs.Stored.{offset, value_of, fits, between}
use Rattle.channels.specs.declared.Attribute.{Attribute}
use Rattle.channels.specs.declared.Descriptor.{Descriptor}
use Rattle.channels.specs.Descriptors.{absent}
use Rattle.descriptions.specs.Description.{flagless, tidy_attribute, tidy_descriptor, fits_attribute, fits_descriptor, every}
use Rattle.description_judging.specs.Judging.{numbers_of, numbers_from}
use Rattle.description_judging.proofs.JudgingLaws.{both, all-five}

-- the bits of a number are zero where the number is
pub zero_bits : (z : ℤ) → SFits w32 z → eqb (of_z w32 z) 0 ≡ eqb (nat_abs z) 0
zero_bits (pos n) h = refl
zero_bits (negsuc n) h = ne_eqb (2 ^ 32 - suc n) 0 (λ e. omega (arith, h.sfits)) ∙ sym (ne_eqb (suc n) 0 (λ e. omega arith))

-- ---- Two tests in one look

-- between 0 and 0 there is only 0
only_zero : (v : ℤ) → (le_z (pos 0) v && le_z v (pos 0)) ≡ (eqb (nat_abs v) 0 && true)
only_zero (pos zero) = refl
only_zero (pos (suc n)) = rw (leb-zero (suc n), leb-suc-zero n, ne_eqb (suc n) 0 (λ e. omega arith))
only_zero (negsuc n) = rw (ne_eqb (suc n) 0 (λ e. omega arith))

-- an attribute is tidy and fits where its number is between two: the least and the most, or 0 and 0 where it is not given
module _ (a : Attribute) (w : ℕ) (signed : Bool) where
  pub sound-attribute : {first last : ℤ} → first ≡ cond a.given (value_of w signed 0) (pos 0) → last ≡ cond a.given (value_of w signed (256 ^ w - 1)) (pos 0)
      → (le_z first a.number && le_z a.number last) ≡ (tidy_attribute a && fits_attribute w signed a)
  unfolding tidy_attribute fits_attribute
  sound-attribute p q = rw (p, q) (go a.given)
    where
      go : (t : Bool)
          → (le_z (cond t (value_of w signed 0) (pos 0)) a.number && le_z a.number (cond t (value_of w signed (256 ^ w - 1)) (pos 0)))
          ≡ ((t || eqb (nat_abs a.number) 0) && (not t || fits w signed a.number))
      go true = sym (between w signed a.number)
      go false = only_zero a.number

-- what is asked only where what stands before it holds: it decides then, and not otherwise
module _ {passed before : Bool} (e : passed ≡ before) where
  pub asked : {found this : Bool} → passed ≡ true → found ≡ this → found ≡ (before && this)
  asked {this} h f = f ∙ ap (λ b. b && this) (sym h ∙ e)

  pub not-asked : (this : Bool) → passed ≡ false → passed ≡ (before && this)
  not-asked this h = h ∙ ap (λ b. b && this) (sym h ∙ e)

-- two tests of one thing after another are the first test of all and the second of all
pairs : (u x y s t : Bool) → (u && x && y && (s && t)) ≡ (u && (x && s) && (y && t))
pairs true true true s t = refl
pairs true true false s t = sym (and-false s)
pairs true false y s t = refl
pairs false x y s t = refl

five-pairs : (u a p b q c r d s e t : Bool) → (u && (a && p) && (b && q) && (c && r) && (d && s) && (e && t)) ≡ (u && (a && b && c && d && e) && (p && q && r && s && t))
five-pairs u a p b q c r d s e t =
    ap (λ z. z && (b && q) && (c && r) && (d && s) && (e && t)) (sym (and_assoc u a p))
    ∙ ap (λ z. z && (c && r) && (d && s) && (e && t)) (pairs u a p b q)
    ∙ ap (λ z. z && (d && s) && (e && t)) (pairs u (a && b) (p && q) c r)
    ∙ ap (λ z. z && (e && t)) (pairs u (a && b && c) (p && q && r) d s)
    ∙ pairs u (a && b && c && d) (p && q && r && s) e t

-- and a test that is made last may stand first
last-first : (a p f : Bool) → (a && p && f) ≡ (f && a && p)
last-first true true true = refl
last-first true true false = refl
last-first true false true = refl
last-first true false false = refl
last-first false p true = refl
last-first false p false = refl

-- what is asked of a descriptor, up to each attribute
abbrev pub to_scaling : Descriptor → Bool
to_scaling d = tidy_attribute d.scaling && fits_attribute 2 false d.scaling

module _ (w channel : ℕ) (d : Descriptor) where
  abbrev pub to_minimum : Bool
  to_minimum = to_scaling d && (tidy_attribute d.minimum && fits_attribute w (signed_of channel) d.minimum)

  abbrev pub to_maximum : Bool
  to_maximum = to_minimum && (tidy_attribute d.maximum && fits_attribute w (signed_of channel) d.maximum)

  abbrev pub to_mean : Bool
  to_mean = to_maximum && (tidy_attribute d.mean && fits_attribute w (signed_of channel) d.mean)

  abbrev pub to_deviation : Bool
  to_deviation = to_mean && (tidy_attribute d.deviation && fits_attribute w false d.deviation)

  pub all_asked : (to_deviation && (d.included || flagless d)) ≡ (tidy_descriptor d && fits_descriptor w channel d)
  unfolding tidy_descriptor fits_descriptor
  all_asked =
      ap
      (λ t. t && (d.included || flagless d))
      (five-pairs
      true
      (tidy_attribute d.scaling)
      (fits_attribute 2 false d.scaling)
      (tidy_attribute d.minimum)
      (fits_attribute w (signed_of channel) d.minimum)
      (tidy_attribute d.maximum)
      (fits_attribute w (signed_of channel) d.maximum)
      (tidy_attribute d.mean)
      (fits_attribute w (signed_of channel) d.mean)
      (tidy_attribute d.deviation)
      (fits_attribute w false d.deviation))
      ∙ last-first _ _ (d.included || flagless d)

-- ---- One check, of what is tidy

-- where the first of two tests is known to hold, both together say what the second does
pub second : {found first this : Bool} → found ≡ (first && this) → first ≡ true → found ≡ this
second {this} e h = e ∙ ap (λ b. b && this) h

-- each attribute of a tidy descriptor is tidy
pub record TidyAttributes (d : Descriptor) : Type 0 where
  pub scaling : tidy_attribute d.scaling ≡ true
  pub minimum : tidy_attribute d.minimum ≡ true
  pub maximum : tidy_attribute d.maximum ≡ true
  pub mean : tidy_attribute d.mean ≡ true
  pub deviation : tidy_attribute d.deviation ≡ true

pub tidy-attributes : (d : Descriptor) → T (tidy_descriptor d) → TidyAttributes d
unfolding tidy_descriptor
tidy-attributes d h =
    let x =
    all-five
    (tidy_attribute d.scaling)
    (tidy_attribute d.minimum)
    (tidy_attribute d.maximum)
    (tidy_attribute d.mean)
    (tidy_attribute d.deviation)
    (both (d.included || flagless d) _ (is_true _ h)).1 in
    record { scaling = x.0; minimum = x.1.0; maximum = x.1.1.0; mean = x.1.1.1.0; deviation = x.1.1.1.1.0 }

-- the largest deviation, which has no sign
pub largest-deviation : (w n : ℕ) → n < 65536 → n ≡ 256 ^ w - 1 → to_z w32 n ≡ value_of w false (256 ^ w - 1)
unfolding value_of offset
largest-deviation w n h e = to_z_pos w32 n (omega arith) ∙ ap pos (omega (arith, e))

-- two tests of each channel are one
pub every-both : (f g : ℕ → Descriptor → Bool) (i : ℕ) (ds : List Descriptor) → (every f i ds && every g i ds) ≡ every (λ j d. f j d && g j d) i ds
unfolding every
every-both f g i [] = refl
every-both f g i (d ∷ ds) = sym (pairs true (f i d) (g i d) (every f (suc i) ds) (every g (suc i) ds)) ∙ ap (λ b. f i d && g i d && b) (every-both f g (suc i) ds)

-- ---- The channels that are left

module _ (test : ℕ → Descriptor → Bool) (ds : List Descriptor) where
  -- what is left to test is this channel and those behind it
  pub every-next : (i : ℕ) → i < length ds → every test i (drop i ds) ≡ (test i (get_or ds i absent) && every test (i + 1) (drop (i + 1) ds))
  unfolding every
  every-next i h = rw (add-one i, drop-cons ds i absent h)

  pub every-none : (i : ℕ) → length ds ≤ i → every test i (drop i ds) ≡ true
  unfolding every
  every-none i h = rw (drop_of_length-le ds {i = i} h)

  -- one that fails decides
  pub every-fails : (i : ℕ) → i < length ds → test i (get_or ds i absent) ≡ false → every test i (drop i ds) ≡ false
  every-fails i h e = every-next i h ∙ rw e

  pub every-passes : (i : ℕ) → i < length ds → test i (get_or ds i absent) ≡ true → every test i (drop i ds) ≡ every test (i + 1) (drop (i + 1) ds)
  every-passes i h e = every-next i h ∙ rw e

  -- where all pass, so do this one and those behind it
  pub every_holds : (i : ℕ) → i < length ds → T (every test i (drop i ds)) → T (test i (get_or ds i absent)) × T (every test (i + 1) (drop (i + 1) ds))
  every_holds i h t =
      let x = both (test i (get_or ds i absent)) (every test (i + 1) (drop (i + 1) ds)) (is_true _ (rw (every-next i h) at t)) in
      (rw x.0 tt, rw x.1 tt)

-- ---- The numbers that are left

module _ (w : ℕ) (ds : List Descriptor) where
  -- those of this channel, and of the channels behind it
  pub numbers-next : (i : ℕ) → i < length ds
      → first_misfit (numbers_from w i (drop i ds)) ≡ or_else (first_misfit (numbers_of w i (get_or ds i absent))) (first_misfit (numbers_from w (i + 1) (drop (i + 1) ds)))
  unfolding numbers_from
  numbers-next i h = rw (add-one i, drop-cons ds i absent h) (joined (numbers_of w i (get_or ds i absent)) (numbers_from w (suc i) (drop (suc i) ds)))

  pub numbers-none : (i : ℕ) → length ds ≤ i → first_misfit (numbers_from w i (drop i ds)) ≡ Ok tt
  unfolding numbers_from first_misfit
  numbers-none i h = rw (drop_of_length-le ds {i = i} h)
