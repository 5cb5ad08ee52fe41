-- What is answered is what the lookup finds, by the front that code has read: its flags, its count, and where its points begin.
use Rattle.std.specs.Prelude.{Ok, Err}
use mathlib.Core.Path.{◌≡◌, sym, ap, ap₂, ◌∙◌}
use mathlib.Core.List.{List}
use Prim.Native.Nat.{ℕ, ◌+◌, ◌*◌, ◌≤◌, ◌<◌}
use native.Mathlib.Nat.{mul-le-mul_left}
use native.Mathlib.Omega.{arith}
use lib.ListN.{length}
use Rattle.formats.specs.Bytes.{Bytes}
use Rattle.formats.specs.Reader.{read_at}
use Rattle.formats.specs.Sight.{seen, failed_sight}
use Rattle.formats.proofs.SightLaws.{seen-within}
use Rattle.formats.specs.declared.Failure.{Failure}
use Rattle.refusals.specs.Table.{refusal_of}
use Rattle.refusals.specs.declared.Refusal.TheVariants.{NoPoint}
use Rattle.points.specs.Points as points
use Rattle.points.specs.Points.{point}
use Rattle.point_places.specs.Places.{nowhere, places_in}
use Rattle.record_fronts.specs.Front.{front}
use Rattle.record_fronts.specs.Fronted.{fronted}
use Rattle.record_fronts.specs.declared.Front.{Front}
use Rattle.lookups.specs.Lookup.{refused, point_read, start_of, point_at, look_up, answered}
use Rattle.lookups.proofs.LookupLaws.{front-refused, front-told, front-looked, not-counted, counted-there, failed-seen}
use Rattle.lookups.proofs.CountingLaws.{counts-at-most}
use Rattle.lookups.specs.declared.Lookup.{Lookup}

-- the place of a point fits: its index is below a count of 32 bits, its width is at most 32, and its front lies in the bytes
pub start_fits : {index count width points size : ℕ} → index < count → count < 4294967296 → width ≤ 32 → points ≤ size → size < 9223372036854775808
    → points + index * width < 18446744073709551616
start_fits {index} below small narrow inside room = omega (arith, mul-le-mul_left index narrow)

module _ (s : List ℕ) where
  -- the points begin where the bytes end that were looked at
  module _ {f : Front} (q : fronted (read_at front s 0) ≡ Ok f) where
    points-are : f.points ≡ length (seen front s 0)
    points-are = sym (front-looked s q)

    pub points-within : f.points ≤ length s
    points-within = rw points-are (seen-within front s 0)

  module _ (index : ℕ) where
    -- the promise of `look_up`: an answer that is the lookup's tells no more bytes than it can look at
    pub promised : Bytes s → {r : Lookup} → r ≡ answered (look_up s index) → (r ≡ answered (look_up s index)) × (r.looked ≤ 223)
    promised bytes e = (e, omega (arith, ap (λ l. l.looked) e, counts-at-most s bytes index))

    -- no front
    pub answers-failed : {f : Failure} → fronted (read_at front s 0) ≡ Err f → {r : Lookup} {n : ℕ} → n ≡ failed_sight (length s) 0 f
        → r ≡ answered (refused (refusal_of f) n) → r ≡ answered (look_up s index)
    answers-failed {f} e q h =
        h ∙ ap (λ n. answered (refused (refusal_of f) n)) (q ∙ sym (failed-seen front s 0 f (front-told s e)).0) ∙ ap answered (sym (front-refused s e index))

    pub places-failed : {f : Failure} → fronted (read_at front s 0) ≡ Err f → nowhere ≡ (look_up s index).places
    places-failed e = sym (ap (λ l. l.places) (front-refused s e index))

    module _ {f : Front} (q : fronted (read_at front s 0) ≡ Ok f) where
      -- no such point
      pub answers-none : f.count ≤ index → answered (refused NoPoint f.points) ≡ answered (look_up s index)
      answers-none h = ap (λ n. answered (refused NoPoint n)) (points-are q) ∙ ap answered (sym (not-counted s q index h))

      pub places-none : f.count ≤ index → nowhere ≡ (look_up s index).places
      places-none h = sym (ap (λ l. l.places) (not-counted s q index h))

      module _ (h : index < f.count) where
        -- the point, as it is told by the front and the bytes that were looked at before
        pub answers-point : {start width : ℕ} → start ≡ f.points + index * width → width ≡ points.width 2 f.stored → (r : Lookup)
            → r.pointed ≡ point_read (read_at (point 2 f.stored) s start) → r.looked ≡ f.points + length (seen (point 2 f.stored) s start) → r ≡ answered (look_up s index)
        unfolding point_at
        answers-point g w r x y =
            ap₂ (λ p n. record { pointed = p; looked = n }) x y
            ∙ ap (λ t. answered (point_at s f.included f.stored f.points t)) (g ∙ ap (λ n. f.points + index * n) w)
            ∙ ap (λ n. answered (point_at s f.included f.stored n (start_of f.stored f.points index))) (points-are q)
            ∙ sym (ap answered (counted-there s q index h))

        -- and its places
        pub places-there : {width : ℕ} → width ≡ points.width 2 f.stored
            → places_in f.included f.stored (read_at (point 2 f.stored) s (f.points + index * width)) ≡ (look_up s index).places
        unfolding point_at
        places-there w =
            ap (λ n. places_in f.included f.stored (read_at (point 2 f.stored) s (f.points + index * n))) w ∙ sym (ap (λ x. x.places) (counted-there s q index h))
