-- A point as sixteen places is read place by place: reading the stored numbers and then setting them out is reading what each channel has.
use Rattle.std.specs.Prelude.{Result, Ok, Err}
use mathlib.Core.Path.{◌≡◌, refl, sym, ap, ◌∙◌}
use mathlib.Core.Bool.{Bool, true, false, cond}
use mathlib.Core.List.{List, [], ◌∷◌}
use Prim.Native.Nat.{ℕ, zero, suc, ◌+◌, ◌≤◌, ◌<◌}
use native.Mathlib.Omega.{arith}
use lib.IntN.{ℤ, pos}
use lib.ListN.{length, get_or, drop, set}
use lib.Seq.{get_or-drop}
use Rattle.formats.specs.Reader.{Reader, Answer, ok, short, bad, done, mapped, and_then, read_at, each, map}
use Rattle.formats.specs.Compose.{at_done, at_map, at_each}
use Rattle.formats.specs.Bytes.{impossible}
use Rattle.formats.specs.Gathered.{Gathered, gathered-more, gathered-failed, gathered-all, mapped-mapped}
use Rattle.formats.specs.Told.{told, failed, failed-told}
use Rattle.formats.specs.declared.Failure.{Failure}
use Rattle.formats.specs.declared.Failure.TheVariants.{Short, Bad}
use Rattle.channels.specs.declared.Place.{Place}
use Rattle.channels.specs.declared.Place.TheVariants.{Number}
use Rattle.points.specs.Points.{sample, point, stored_from, channels}
use Rattle.point_places.specs.Places.{unstored, places_of, nowhere, places_in}
use Rattle.point_places.specs.Parts.{sampled, place_read, place}
use Rattle.point_places.specs.declared.PlaceRead.{PlaceRead}
use Rattle.point_places.specs.declared.Sample.{Sample}

-- a channel with its two flags
pub record Flagged : Type 0 where
  pub channel : ℕ
  pub included : Bool
  pub stored : Bool

abbrev pub unflagged : Flagged
unflagged = record { channel = 0; included = false; stored = false }

-- each channel with its flags, from channel i on
unfoldable pub flagged : ℕ → (included stored : List Bool) → List Flagged
flagged i included [] = []
flagged i included (flag ∷ stored) = record { channel = i; included = get_or included 0 false; stored = flag } ∷ flagged (suc i) (drop 1 included) stored

pub length-flagged : (i : ℕ) (included stored : List Bool) → length (flagged i included stored) ≡ length stored
unfolding flagged
length-flagged i included [] = refl
length-flagged i included (flag ∷ stored) = ap suc (length-flagged (suc i) (drop 1 included) stored)

pub nth-flagged : (stored included : List Bool) (i j : ℕ) → j < length stored
    → get_or (flagged i included stored) j unflagged ≡ record { channel = i + j; included = get_or included j false; stored = get_or stored j false }
unfolding flagged
nth-flagged [] included i j h = absurd (omega arith)
nth-flagged (flag ∷ stored) included i zero h =
    let z : i ≡ i + 0 = omega arith in ap (λ n. record { channel = n; included = get_or included 0 false; stored = flag }) z
nth-flagged (flag ∷ stored) included i (suc j) h =
    let z : suc i + j ≡ i + suc j = omega arith in
    let y : 1 + j ≡ suc j = omega arith in
    nth-flagged stored (drop 1 included) (suc i) j (omega arith) ∙ rw (z, get_or-drop, y)

-- a number as a place
abbrev pub numbered : Result Sample Failure → Result PlaceRead Failure
numbered (Ok x) = Ok (record { place = Number x.value; next = x.next })
numbered (Err f) = Err f

module _ (w : ℕ) where
  abbrev pub place_of : Flagged → Reader Place
  place_of f = place w f.channel f.included f.stored

  module _ (s : List ℕ) where
    abbrev Same : ℕ → (included stored : List Bool) → ℕ → Type 0
    Same i included stored at =
        mapped (places_of included stored) (read_at (each (stored_from i stored) (sample w)) s at) ≡ read_at (each (flagged i included stored) place_of) s at

    -- a channel with no bytes
    silent : (p : Place) (i : ℕ) (included stored : List Bool) (at : ℕ) → Same i included stored at
        → mapped (λ vs. p ∷ places_of included stored vs) (read_at (each (stored_from i stored) (sample w)) s at)
        ≡ and_then (read_at (done p) s at) (λ v n. mapped (λ vs. v ∷ vs) (read_at (each (flagged i included stored) place_of) s n))
    unfolding and_then
    silent p i included stored at h =
        sym (mapped-mapped (λ vs. p ∷ vs) (places_of included stored) (read_at (each (stored_from i stored) (sample w)) s at))
        ∙ rw (at_done p s at) (ap (mapped (λ vs. p ∷ vs)) h)

    -- a channel with a number
    spoken : (x : Answer ℤ) (i : ℕ) (included stored : List Bool) → ((n : ℕ) → Same i included stored n)
        → mapped (λ vs. Number (get_or vs 0 (pos 0)) ∷ places_of included stored (drop 1 vs)) (and_then x (λ v n. mapped (λ vs. v ∷ vs) (read_at (each (stored_from i stored) (sample w)) s n)))
        ≡ and_then (mapped Number x) (λ v n. mapped (λ vs. v ∷ vs) (read_at (each (flagged i included stored) place_of) s n))
    unfolding and_then mapped
    spoken (ok v n) i included stored h =
        mapped-mapped (λ vs. Number (get_or vs 0 (pos 0)) ∷ places_of included stored (drop 1 vs)) (λ vs. v ∷ vs) (read_at (each (stored_from i stored) (sample w)) s n)
        ∙ sym (mapped-mapped (λ vs. Number v ∷ vs) (places_of included stored) (read_at (each (stored_from i stored) (sample w)) s n))
        ∙ ap (mapped (λ vs. Number v ∷ vs)) (h n)
    spoken short i included stored h = refl
    spoken (bad k p) i included stored h = refl

    pub set_out : (i : ℕ) (included stored : List Bool) (at : ℕ) → Same i included stored at
    unfolding places_of stored_from flagged place each mapped
    set_out i included [] at = ap (mapped (places_of included [])) (at_done [] s at) ∙ sym (at_done [] s at)
    set_out i included (flag ∷ stored) at =
        go flag (set_out (suc i) (drop 1 included) stored)
        ∙ sym (at_each s at (record { channel = i; included = get_or included 0 false; stored = flag }) (flagged (suc i) (drop 1 included) stored) place_of)
      where
        go : (t : Bool) → ((n : ℕ) → Same (suc i) (drop 1 included) stored n)
            → mapped
            (λ vs. cond t (Number (get_or vs 0 (pos 0)) ∷ places_of (drop 1 included) stored (drop 1 vs)) (unstored (get_or included 0 false) ∷ places_of (drop 1 included) stored vs))
            (read_at (each (cond t (i ∷ stored_from (suc i) stored) (stored_from (suc i) stored)) (sample w)) s at)
            ≡ and_then (read_at (cond t (map Number (sample w i)) (done (unstored (get_or included 0 false)))) s at) (λ v n. mapped (λ vs. v ∷ vs) (read_at (each (flagged (suc i) (drop 1 included) stored) place_of) s n))
        go true h =
            rw (at_each s at i (stored_from (suc i) stored) (sample w), at_map Number (sample w i) s at)
            (spoken (read_at (sample w i) s at) (suc i) (drop 1 included) stored h)
        go false h = silent (unstored (get_or included 0 false)) (suc i) (drop 1 included) stored at (h at)

  -- ---- By the tests of the code

  module _ (s : List ℕ) (at channel : ℕ) (included : Bool) where
    pub place-unstored : (stored : Bool) → stored ≡ false → read_at (place w channel included stored) s at ≡ ok (unstored included) at
    unfolding place
    place-unstored stored e = rw e (at_done (unstored included) s at)

    place-number : (stored : Bool) → stored ≡ true → read_at (place w channel included stored) s at ≡ mapped Number (read_at (sample w channel) s at)
    unfolding place
    place-number stored e = rw e (at_map Number (sample w channel) s at)

    read_number : (x : Answer ℤ) → place_read (mapped Number x) ≡ numbered (sampled x)
    unfolding sampled place_read mapped
    read_number (ok u m) = refl
    read_number short = refl
    read_number (bad k p) = refl

    pub place-stored : (stored : Bool) {x : Result Sample Failure} → stored ≡ true → sampled (read_at (sample w channel) s at) ≡ x
        → place_read (read_at (place w channel included stored) s at) ≡ numbered x
    place-stored stored e h = ap place_read (place-number stored e) ∙ read_number (read_at (sample w channel) s at) ∙ ap numbered h

-- what was read, taken back to the answer
there : Result PlaceRead Failure → PlaceRead
there (Ok x) = x
there (Err f) = record { place = Number (pos 0); next = 0 }

pub read_ok : (x : Answer Place) {v : Place} {n : ℕ} → Ok (record { place = v; next = n }) ≡ place_read x → x ≡ ok v n
unfolding place_read there
read_ok (ok u m) {v} {n} e =
    let same : record { place = v; next = n } ≡ record { place = u; next = m } = ap there e in λ i. ok ((sym same i).place) ((sym same i).next)
read_ok short e = impossible (cc)
read_ok (bad k p) e = impossible (cc)

pub read-failed : (x : Answer Place) {f : Failure} → Err f ≡ place_read x → x ≡ failed f
unfolding place_read
read-failed (ok v n) e = impossible (cc)
read-failed short {f} e = ap failed {x = Short} {y = f} (cc)
read-failed (bad k p) {f} e = ap failed {x = Bad k p} {y = f} (cc)

-- ---- All sixteen

module _ (w : ℕ) (included stored : List Bool) (s : List ℕ) (start : ℕ) where
  abbrev all : List Flagged
  all = flagged 0 included stored

  -- what is known of the array of places after some channels
  abbrev pub SoFar : List Place → ℕ → ℕ → Type 0
  SoFar a i at = Gathered all (place_of w) s start a i at

  found : (x : Answer (List ℤ)) (y : Answer (List Place)) → mapped (places_of included stored) x ≡ y → (ps : List Place) (n : ℕ) → y ≡ ok ps n → places_in included stored x ≡ ps
  unfolding mapped places_in
  found (ok v m) y e ps n g = cc
  found short y e ps n g = impossible (cc)
  found (bad k p) y e ps n g = impossible (cc)

  no-point : (x : Answer (List ℤ)) (f : Failure) → mapped (places_of included stored) x ≡ failed f → places_in included stored x ≡ nowhere
  unfolding mapped places_in told
  no-point (ok v n) f e = impossible (cc (failed-told f e))
  no-point short f e = refl
  no-point (bad k p) f e = refl

  set_all : mapped (places_of included stored) (read_at (point w stored) s start) ≡ read_at (each all (place_of w)) s start
  unfolding point channels
  set_all = set_out w s 0 included stored start

  pub set-end : (a : List Place) (i at : ℕ) → length stored ≤ i → length a ≤ i → SoFar a i at → places_in included stored (read_at (point w stored) s start) ≡ a
  set-end a i at h q g =
      found (read_at (point w stored) s start) _ set_all a at (gathered-all all (place_of w) s start a i at (omega (arith, length-flagged 0 included stored)) q g)

  module _ (a : List Place) (i at : ℕ) (h : i < length stored) (g : SoFar a i at) where
    abbrev here : Answer Place
    here = read_at (place w i (get_or included i false) (get_or stored i false)) s at

    inside : i < length all
    inside = omega (arith, length-flagged 0 included stored)

    this : read_at (place_of w (get_or all i unflagged)) s at ≡ here
    this = let z : 0 + i ≡ i = omega arith in ap (λ f. read_at (place_of w f) s at) (rw z at (nth-flagged stored included 0 i h))

    pub set_more : {v : Place} {n : ℕ} → i < length a → (Ok (record { place = v; next = n })) ≡ place_read here → SoFar (set a i v) (i + 1) n
    set_more q e = gathered-more all _ s start unflagged a i at inside g q (this ∙ read_ok _ e)

    pub set-failed : {f : Failure} → Err f ≡ place_read here → places_in included stored (read_at (point w stored) s start) ≡ nowhere
    set-failed {f} e = no-point _ f (set_all ∙ gathered-failed all _ s start unflagged a i at inside g f (this ∙ read-failed _ e))
