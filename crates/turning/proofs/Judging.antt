-- The places of a point are judged as its numbers among the values are, and so the points of a record as its values: by the flags, as each that is set has a place with a number.
use Rattle.std.specs.Prelude.{Result, Ok, ⊤}
use mathlib.Core.Path.{◌≡◌, refl, sym, ap, ap₂, ◌∙◌}
use mathlib.Core.Bool.{Bool, true, false, cond}
use mathlib.Core.List.{List, [], ◌∷◌}
use Prim.Native.Nat.{ℕ, suc, ◌+◌, ◌-◌, ◌*◌, ◌≤◌, ◌<◌}
use native.Mathlib.Nat.{sub-zero}
use native.Mathlib.Numerals.{add-one}
use native.Mathlib.Omega.{arith}
use borrow.Author.Tests.{eq-eqb}
use lib.IntN.{ℤ, pos}
use lib.ListN.{length, get_or, drop, drop_of_length-le}
use lib.Seq.{drop-cons, get_or-drop}
use Rattle.formats.specs.Reader.{ok, read_at, times}
use Rattle.formats.specs.Writes.{All}
use Rattle.refusals.specs.Stages.{require, or_else}
use Rattle.refusals.specs.Ranges.{first_misfit}
use Rattle.refusals.specs.declared.Quantity.TheVariants.{Value}
use Rattle.refusals.specs.declared.Refusal.TheVariants.{OutOfRange}
use Rattle.channels.specs.declared.Place.{Place}
use Rattle.channels.specs.declared.Place.TheVariants.{Absent, Number}
use Rattle.points.specs.Points.{stored_from, channels, point, width, fits_sample}
use Rattle.point_places.specs.Places.{unstored, places_of, places_in}
use Rattle.orders.specs.Orders.{size, step, stride, values_of}
use Rattle.orders.proofs.OrderLaws.{all-sized, values-many, value-is}
use Rattle.orders.specs.declared.Order.TheVariants.{Point}
use Rattle.values.specs.Values.{samples_in, samples_from, samples, judgement_of}
use Rattle.values.proofs.Lent.{next-judged, last-judged}
use Rattle.turning.specs.Parts.{misfit_in}
use Rattle.turning.proofs.Standing.{no_number, counted, ith, ith-size}
use Rattle.refusals.specs.declared.Refusal.{Refusal}

-- ---- The places from channel i on

module _ (i from : ℕ) where
  module _ (places : List Place) where
    module _ (h : i < length places) where
      -- a place without a number is passed
      pub pass-place : ((v : ℤ) → get_or places i Absent ≡ Number v → ⊥) → misfit_in i from (drop i places) ≡ misfit_in (i + 1) from (drop (i + 1) places)
      unfolding misfit_in
      pass-place e = rw (add-one, drop-cons places i Absent h) (no_number (λ p. misfit_in i from (p ∷ drop (suc i) places)) _ refl refl (get_or places i Absent) e)

      -- one with a number is judged by it
      pub take-place : {v : ℤ} → get_or places i Absent ≡ Number v
          → misfit_in i from (drop i places) ≡ or_else (require (fits_sample 1 i v) (OutOfRange (Value from i))) (misfit_in (i + 1) (from + 1) (drop (i + 1) places))
      unfolding misfit_in
      take-place e = simp add-one (rw (drop-cons places i Absent h, e))

    pub no_place : length places ≤ i → misfit_in i from (drop i places) ≡ Ok tt
    unfolding misfit_in
    no_place h = rw (drop_of_length-le places {i = i} h)

-- ---- A point

-- where its numbers stand among the values from an index on, those behind the first stand from the next on
behind-first : (numbers values : List ℤ) (from r : ℕ) → get_or values (from + suc r) (pos 0) ≡ get_or numbers (suc r) (pos 0) → get_or values (suc from + r) (pos 0) ≡ get_or (drop 1 numbers) r (pos 0)
behind-first numbers values from r e =
    let a : suc from + r ≡ from + suc r = omega arith in
    let b : 1 + r ≡ suc r = omega arith in
    rw (a, get_or-drop, b) e

-- and its places are judged as they are
same-misfit : (flags included : List Bool) (numbers values : List ℤ) (i from : ℕ)
    → ((r : ℕ) → r < length (stored_from i flags) → get_or values (from + r) (pos 0) ≡ get_or numbers r (pos 0))
    → misfit_in i from (places_of included flags numbers) ≡ first_misfit (samples_in 1 1 (stored_from i flags) values from)
unfolding misfit_in places_of stored_from samples_in first_misfit
same-misfit [] included numbers values i from same = refl
same-misfit (flag ∷ flags) included numbers values i from same =
    go flag (get_or included 0 false) same (λ numbers from h. same-misfit flags (drop 1 included) numbers values (suc i) from h)
  where
    go : (t u : Bool)
        → ((r : ℕ) → r < length (cond t (i ∷ stored_from (suc i) flags) (stored_from (suc i) flags)) → get_or values (from + r) (pos 0) ≡ get_or numbers r (pos 0))
        → ((numbers : List ℤ) (from : ℕ) → ((r : ℕ) → r < length (stored_from (suc i) flags) → get_or values (from + r) (pos 0) ≡ get_or numbers r (pos 0))
        → misfit_in (suc i) from (places_of (drop 1 included) flags numbers) ≡ first_misfit (samples_in 1 1 (stored_from (suc i) flags) values from))
        → misfit_in i from (cond t (Number (get_or numbers 0 (pos 0)) ∷ places_of (drop 1 included) flags (drop 1 numbers)) (unstored u ∷ places_of (drop 1 included) flags numbers))
        ≡ first_misfit (samples_in 1 1 (cond t (i ∷ stored_from (suc i) flags) (stored_from (suc i) flags)) values from)
    go true u h rest =
        let z : from + 0 ≡ from = omega arith in
        let first = rw z at (h 0 (omega arith)) in
        rw add-one (ap₂ or_else (ap (λ v. require (fits_sample 1 i v) (OutOfRange (Value from i))) (sym first)) (rest (drop 1 numbers) (suc from) (λ r g. behind-first numbers values from r (h (suc r) (omega arith)))))
    go false true h rest = rest numbers from h
    go false false h rest = rest numbers from h

-- ---- The points of a record, which stand from a place on

module _ (stored : List Bool) (count : ℕ) where
  -- how those from point i on are judged, by their values
  unfoldable pub misfit_left : (points : List (List ℤ)) (i : ℕ) → Result ⊤ Refusal
  misfit_left points i = first_misfit (samples_from 1 1 (channels stored) (values_of Point (size stored) points) (size stored) (count - i) (i * size stored))

  pub all_left : (points : List (List ℤ)) → first_misfit (samples 1 stored Point count (values_of Point (size stored) points)) ≡ misfit_left points 0
  unfolding misfit_left samples step stride
  all_left points = let z : 0 * size stored ≡ 0 = omega arith in rw (z, sub-zero)

  pub none_left : (points : List (List ℤ)) (i : ℕ) → count ≤ i → misfit_left points i ≡ Ok tt
  unfolding misfit_left
  none_left points i h = last-judged 1 1 (channels stored) (values_of Point (size stored) points) (size stored) count i (i * size stored) h

module _ (s : List ℕ) (start : ℕ) (stored : List Bool) (count : ℕ) (points : List (List ℤ)) (end : ℕ) (within : start ≤ length s) (e : read_at (times count (point 2 stored)) s start ≡ ok points end) where
  many : length points ≡ count
  many = counted s start stored count points end within e

  sizes : All (λ p. length p ≡ size stored) points
  sizes = all-sized (size stored) points (λ i h. ith-size s start stored count points end within e i (omega (arith, many)))

  -- their amount is never wrong: only the first that doesn't fit is named
  pub values-judged : judgement_of 1 stored Point count (values_of Point (size stored) points) ≡ first_misfit (samples 1 stored Point count (values_of Point (size stored) points))
  unfolding judgement_of or_else require
  values-judged =
      let amount = values-many (size stored) points sizes Point ∙ ap (λ n. n * size stored) many in
      rw (eq-eqb (length (values_of Point (size stored) points)) (count * size stored) amount)

  module _ (i : ℕ) (h : i < count) where
    numbers-stand : (r : ℕ) → r < size stored → get_or (values_of Point (size stored) points) (i * size stored + r) (pos 0) ≡ get_or (get_or points i []) r (pos 0)
    unfolding step stride
    numbers-stand r g =
        let z : i * size stored + r * 1 ≡ i * size stored + r = omega arith in
        rw z at (value-is (size stored) points sizes Point i r (omega (arith, many)) g)

    -- its places are judged, and then those behind it
    pub next-left : misfit_left stored count points i ≡ or_else (misfit_in 0 (i * size stored) (places_in stored stored (read_at (point 2 stored) s (start + i * width 2 stored)))) (misfit_left stored count points (i + 1))
    unfolding misfit_left channels places_in
    next-left =
        let values = values_of Point (size stored) points in
        let z : i * size stored + size stored ≡ (i + 1) * size stored = omega arith in
        rw (ith s start stored count points end within e i h)
        (next-judged 1 1 (channels stored) values (size stored) count i (i * size stored) h
        ∙ ap₂ or_else (sym (same-misfit stored stored (get_or points i []) values 0 (i * size stored) numbers-stand)) (rw z))
