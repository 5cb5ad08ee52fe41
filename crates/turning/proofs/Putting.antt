-- What is put of a record's points: a number has one byte, the places of a point have the bytes of its numbers, and those of all points are as many as their widths.
use Rattle.std.specs.Prelude.{Option}
use mathlib.Core.Path.{◌≡◌, refl, sym, ap, ap₂, ◌∙◌}
use mathlib.Core.Bool.{Bool, true, false, cond}
use mathlib.Core.List.{List, [], ◌∷◌, ◌++◌, flat_map}
use Prim.Native.Nat.{ℕ, suc, ◌+◌, ◌*◌, ◌%◌, ◌≤◌, ◌<◌}
use native.Mathlib.Numerals.{add-one}
use native.Mathlib.Omega.{arith}
use lib.Dec.{eqb}
use lib.IntN.{ℤ}
use lib.ListN.{length, get_or, drop, length-append, drop_of_length-le}
use lib.Seq.{drop-cons}
use Rattle.formats.specs.Reader.{ok, read_at, times}
use Rattle.formats.specs.Number.{digits}
use Rattle.formats.specs.Writes.{encode_each}
use Rattle.formats.specs.Laid.{Room}
use Rattle.channels.specs.Channel.{S}
use Rattle.channels.specs.declared.Place.{Place}
use Rattle.channels.specs.declared.Place.TheVariants.{Number}
use Rattle.point_places.specs.Places.{unstored, places_of, places_in}
use Rattle.points.specs.Points.{stored_from, channels, point, widths, width}
use Rattle.values.specs.Values.{stored_sample, number_in, sample_bytes, bytes_of}
use Rattle.turning.specs.Parts.{bytes_in}
use Rattle.turning.proofs.Standing.{no_number, counted, ith, ith-size}

-- ---- A number

one-wide : (t : Bool) → ◌≡◌ {A = ℕ} (cond t 1 1) 1
one-wide true = refl
one-wide false = refl

pub sample-byte : (channel : ℕ) (v : ℤ) {found : Option ℕ} → stored_sample 1 channel v ≡ found → sample_bytes 1 channel v ≡ number_in found % 256 ∷ []
unfolding sample_bytes digits
sample-byte channel v e = rw (one-wide (eqb channel S), e)

-- ---- The places of a point

pub places-bytes : (i : ℕ) (included flags : List Bool) (p : List ℤ) → length p ≡ length (stored_from i flags)
    → bytes_in i (places_of included flags p) ≡ encode_each (sample_bytes 1) (stored_from i flags) p
unfolding bytes_in places_of encode_each stored_from
places-bytes i included [] p h = refl
places-bytes i included (true ∷ flags) [] h = absurd (omega arith)
places-bytes i included (true ∷ flags) (v ∷ p) h = ap (λ b. sample_bytes 1 i v ++ b) (places-bytes (suc i) (drop 1 included) flags p (omega arith))
places-bytes i included (false ∷ flags) p h = go (get_or included 0 false) (places-bytes (suc i) (drop 1 included) flags p h)
  where
    go : (t : Bool) → bytes_in (suc i) (places_of (drop 1 included) flags p) ≡ encode_each (sample_bytes 1) (stored_from (suc i) flags) p
        → bytes_in i (unstored t ∷ places_of (drop 1 included) flags p) ≡ encode_each (sample_bytes 1) (stored_from (suc i) flags) p
    go true e = e
    go false e = e

-- those from channel i on: one that is no number has no byte, and a number has one
module _ (places : List Place) (i : ℕ) (d : Place) (h : i < length places) where
  pub pass-place : ((v : ℤ) → get_or places i d ≡ Number v → ⊥) → bytes_in i (drop i places) ≡ bytes_in (i + 1) (drop (i + 1) places)
  unfolding bytes_in
  pass-place q = rw (add-one, drop-cons places i d h) (no_number (λ p. bytes_in i (p ∷ drop (suc i) places)) _ refl refl (get_or places i d) q)

  pub take-place : {v : ℤ} {b : ℕ} → get_or places i d ≡ Number v → b ∷ [] ≡ sample_bytes 1 i v → bytes_in i (drop i places) ≡ (b ∷ []) ++ bytes_in (i + 1) (drop (i + 1) places)
  unfolding bytes_in
  take-place {v} e q = rw (add-one, drop-cons places i d h, e) (ap (λ b. b ++ bytes_in (suc i) (drop (suc i) places)) (sym q))

pub no-places : (places : List Place) (i : ℕ) → length places ≤ i → bytes_in i (drop i places) ≡ []
unfolding bytes_in
no-places places i h = rw (drop_of_length-le places {i = i} h)

-- ---- All points

-- a point has a byte for each stored channel
point-length : (l : List ℕ) (p : List ℤ) → length p ≡ length l → length (encode_each (sample_bytes 1) l p) ≡ widths 1 l
unfolding encode_each widths
point-length [] p h = refl
point-length (channel ∷ l) [] h = absurd (omega arith)
point-length (channel ∷ l) (v ∷ p) h =
    rw (sample-byte channel v refl, one-wide (eqb channel S)) (omega (arith, point-length l p (omega arith)))

points-length : (stored : List Bool) (points : List (List ℤ)) → ((i : ℕ) → i < length points → length (get_or points i []) ≡ length (channels stored))
    → length (bytes_of 1 stored points) ≡ length points * width 1 stored
unfolding bytes_of flat_map width
points-length stored [] h = omega arith
points-length stored (p ∷ points) h =
    length-append (encode_each (sample_bytes 1) (channels stored) p) _
    ∙ ap₂ ◌+◌ (point-length (channels stored) p (h 0 (omega arith))) (points-length stored points (λ i q. h (suc i) (omega arith)))
    ∙ omega arith

pub no-points : (stored : List Bool) (points : List (List ℤ)) (i : ℕ) → length points ≤ i → bytes_of 1 stored (drop i points) ≡ []
unfolding bytes_of flat_map
no-points stored points i h = rw (drop_of_length-le points {i = i} h)

-- those of a record, which were read from a place on
module _ (whole : List ℕ) (start : ℕ) (stored : List Bool) (count : ℕ) (points : List (List ℤ)) (end : ℕ) (within : start ≤ length whole) (e : read_at (times count (point 2 stored)) whole start ≡ ok points end) where
  many : length points ≡ count
  many = counted whole start stored count points end within e

  sized : (i : ℕ) → i < count → length (get_or points i []) ≡ length (channels stored)
  sized i h = ith-size whole start stored count points end within e i h

  -- the bytes of the ith one's places come next
  pub next-bytes : (i : ℕ) → i < count → (places : List Place) (from : ℕ) → places ≡ places_in stored stored (read_at (point 2 stored) whole from) → from ≡ start + i * width 2 stored
      → bytes_of 1 stored (drop i points) ≡ bytes_in 0 places ++ bytes_of 1 stored (drop (i + 1) points)
  unfolding bytes_of flat_map places_in channels
  next-bytes i h places from p q =
      rw (p, q, ith whole start stored count points end within e i h, places-bytes 0 stored stored (get_or points i []) (sized i h), add-one, drop-cons points i [] (omega (arith, many)))

  pub all-length : length (bytes_of 1 stored points) ≡ count * width 1 stored
  all-length = points-length stored points (λ i h. sized i (omega (arith, many))) ∙ ap (λ n. n * width 1 stored) many

  pub all_room : {out : List ℕ} → count * width 1 stored ≤ length out → Room out 0 (bytes_of 1 stored points)
  all_room h = record { enough = omega (arith, all-length) }
