-- Values in either order: those that fit are valid points and are put as their encoding, the first that does not fit is named, and both orders are said and put the same.
use Rattle.std.specs.Prelude.{◌≡◌, ◌↔◌, Bool, ◌&&◌, eqb, leb, ℤ, pos, length, get_or, Ok, Err}
use Rattle.std.proofs.Math.Path.{refl, ap, ap₂}
use Rattle.std.proofs.Common.{sym, ◌∙◌}
use Rattle.std.proofs.Math.Bool.{true, false, cond}
use mathlib.Core.List.{List, [], ◌∷◌, ◌++◌, flat_map}
use Prim.Native.Nat.{ℕ, zero, suc, ◌+◌, ◌*◌, ◌%◌, ◌<◌}
use native.Mathlib.Omega.{arith}
use borrow.Author.Tests.{eqb-true, eq-eqb, le-leb}
use Rattle.std.proofs.Math.Dec.{T}
use Rattle.std.specs.Float.Ieee.Bits.{is_true}
use Rattle.std.proofs.Math.ListN.{length-append}
use Rattle.formats.specs.Bytes.{impossible}
use Rattle.formats.specs.Number.{digits, length_digits}
use Rattle.formats.specs.Put.{puts}
use Rattle.formats.specs.Lent.{writing}
use Rattle.formats.specs.Laid.{Room, Laid}
use Rattle.formats.specs.Writes.{All, all_append, Each, encode_each}
use Rattle.refusals.specs.Stages.{require, or_else, require-passed, or-else-passed}
use Rattle.refusals.specs.Ranges.{Ranged, ◌fits_if◌, first_misfit, FirstOutside}
use Rattle.refusals.proofs.RangeLaws.{joined, named-first, first-named, of-first}
use Rattle.refusals.specs.declared.Quantity.{Quantity}
use Rattle.refusals.specs.declared.Quantity.TheVariants.{Value}
use Rattle.refusals.specs.declared.Refusal.TheVariants.{OutOfRange, Amount}
use Rattle.channels.specs.Channel.{S, signed_of}
use Rattle.channels.specs.Stored.{stored_of, fits, stored_if}
use Rattle.tip_switch.specs.Switch.{byte_of, is_state, byte_if, state-byte}
use Rattle.points.specs.Points.{channels, sample_size, widths, width, encode_sample, encode_point, fits_sample, ValidPoint}
use Rattle.points.specs.Laws.{points-length}
use Rattle.orders.specs.Orders.{size, step, stride, index, Same, numbers_from, points_from, points_of, values_of}
use Rattle.orders.proofs.OrderLaws.{points-many, same_points, values-many, points-again}
use Rattle.orders.specs.declared.Order.{Order}
use Rattle.orders.specs.declared.Order.TheVariants.{Point, Column}
use Rattle.values.specs.Values.{samples_in, samples_from, samples, judgement_of, stored_sample, number_in, sample_bytes, bytes_of, put_of}

-- ---- How many bytes are put

module _ (w : ℕ) where
  sample-bytes : (channel : ℕ) (v : ℤ) → length (sample_bytes w channel v) ≡ sample_size w channel
  unfolding sample_bytes
  sample-bytes channel v = length_digits (sample_size w channel) (number_in (stored_sample w channel v))

  module _ (values : List ℤ) (d : ℕ) where
    pub point-bytes : (l : List ℕ) (from : ℕ) → length (encode_each (sample_bytes w) l (numbers_from values d (length l) from)) ≡ widths w l
    unfolding encode_each numbers_from widths
    point-bytes [] from = refl
    point-bytes (channel ∷ l) from =
        length-append (sample_bytes w channel (get_or values from (pos 0))) _ ∙ ap₂ ◌+◌ (sample-bytes channel (get_or values from (pos 0))) (point-bytes l (from + d))

    pub points-bytes : (l : List ℕ) (p n from : ℕ) → length (flat_map (encode_each (sample_bytes w) l) (points_from values d (length l) p n from)) ≡ n * widths w l
    unfolding flat_map points_from
    points-bytes l p zero from = omega arith
    points-bytes l p (suc n) from =
        length-append (encode_each (sample_bytes w) l (numbers_from values d (length l) from)) _
        ∙ ap₂ ◌+◌ (point-bytes l from) (points-bytes l p n (from + p))
        ∙ omega arith

-- ---- Both orders

-- values that are the same points are put as the same bytes
pub same-put : (w : ℕ) (stored : List Bool) (count : ℕ) (rows columns : List ℤ) (out : List ℕ) (at : ℕ) → length rows ≡ length columns → Same count (size stored) rows columns
    → put_of w stored Point count rows out at ≡ put_of w stored Column count columns out at
unfolding put_of
same-put w stored count rows columns out at h same =
    ap₂
    (λ n points. cond
    (eqb n (count * size stored) && leb (at + count * width w stored) (length out))
    (writing (at + count * width w stored) (puts out at (bytes_of w stored points)))
    (writing at out))
    h
    (same_points count (size stored) rows columns same)

-- ---- What is said of them

module _ (w : ℕ) where
  abbrev Fitted : List ℕ → List ℤ → Type 0
  Fitted l point = Each (λ channel v. T (fits_sample w channel v)) l point

  module _ (values : List ℤ) (d : ℕ) where
    fitted-in : (l : List ℕ) (from : ℕ) → first_misfit (samples_in w d l values from) ≡ Ok tt → Fitted l (numbers_from values d (length l) from)
    unfolding samples_in first_misfit numbers_from
    fitted-in [] from e = tt
    fitted-in (channel ∷ l) from e =
        let x = or-else-passed _ _ e in
        (rw (require-passed _ _ x.0) tt, fitted-in l (from + d) x.1)

    in-fitted : (l : List ℕ) (from : ℕ) → Fitted l (numbers_from values d (length l) from) → first_misfit (samples_in w d l values from) ≡ Ok tt
    unfolding samples_in first_misfit numbers_from or_else require
    in-fitted [] from h = refl
    in-fitted (channel ∷ l) from h = rw (is_true (fits_sample w channel (get_or values from (pos 0))) h.0) (in-fitted l (from + d) h.1)

    module _ (l : List ℕ) (p : ℕ) where
      fitted-from : (n from : ℕ) → first_misfit (samples_from w d l values p n from) ≡ Ok tt → All (Fitted l) (points_from values d (length l) p n from)
      unfolding samples_from points_from
      fitted-from zero from e = tt
      fitted-from (suc n) from e = let x = or-else-passed _ _ (sym (joined (samples_in w d l values from) (samples_from w d l values p n (from + p))) ∙ e) in (fitted-in l from x.0, fitted-from n (from + p) x.1)

      from-fitted : (n from : ℕ) → All (Fitted l) (points_from values d (length l) p n from) → first_misfit (samples_from w d l values p n from) ≡ Ok tt
      unfolding samples_from first_misfit points_from or_else
      from-fitted zero from h = refl
      from-fitted (suc n) from h = joined (samples_in w d l values from) (samples_from w d l values p n (from + p)) ∙ rw (in-fitted l from h.0) (from-fitted n (from + p) h.1)

module _ (w : ℕ) (stored : List Bool) (order : Order) (count : ℕ) (values : List ℤ) where
  -- that they fit is that they are valid points
  pub fits-valid : judgement_of w stored order count values ≡ Ok tt → (length values ≡ count * size stored) × All (ValidPoint w stored) (points_of order count (size stored) values)
  unfolding judgement_of samples points_of ValidPoint
  fits-valid e =
      let x = or-else-passed _ _ e in
      (eqb-true (length values) (count * size stored) (require-passed _ _ x.0), fitted-from w values (stride order count) (channels stored) (step order (size stored)) count 0 x.1)

  pub valid-fits : length values ≡ count * size stored → All (ValidPoint w stored) (points_of order count (size stored) values) → judgement_of w stored order count values ≡ Ok tt
  unfolding judgement_of samples points_of ValidPoint or_else require
  valid-fits h g = rw (eq-eqb (length values) (count * size stored) h) (from-fitted w values (stride order count) (channels stored) (step order (size stored)) count 0 g)

-- what is put of valid points is their encoding
module _ (w : ℕ) where
  sample-encoded : (channel : ℕ) (v : ℤ) → T (fits_sample w channel v) → sample_bytes w channel v ≡ encode_sample w channel v
  unfolding sample_bytes encode_sample fits_sample stored_sample byte_if stored_if digits
  sample-encoded channel v h = go (eqb channel S) h
    where
      go : (t : Bool) → T (cond t (is_state v) (fits w (signed_of channel) v))
          → digits (cond t 1 w) (number_in (cond t (byte_if v) (stored_if w (signed_of channel) v))) ≡ cond t (byte_of v ∷ []) (digits w (stored_of w (signed_of channel) v))
      go true q =
          let z : byte_of v % 256 ≡ byte_of v = omega (arith, (state-byte v q).0.0) in
          rw (is_true (is_state v) q, z)
      go false q = rw (is_true (fits w (signed_of channel) v) q)

  samples-encoded : (l : List ℕ) (vs : List ℤ) → Fitted w l vs → encode_each (sample_bytes w) l vs ≡ encode_each (encode_sample w) l vs
  unfolding encode_each
  samples-encoded [] vs h = refl
  samples-encoded (channel ∷ l) [] h = refl
  samples-encoded (channel ∷ l) (v ∷ vs) h = ap₂ ◌++◌ (sample-encoded channel v h.0) (samples-encoded l vs h.1)

  pub valid-bytes : (stored : List Bool) (points : List (List ℤ)) → All (ValidPoint w stored) points → bytes_of w stored points ≡ flat_map (encode_point w stored) points
  unfolding bytes_of flat_map encode_point ValidPoint
  valid-bytes stored [] h = refl
  valid-bytes stored (point ∷ points) h = ap₂ ◌++◌ (samples-encoded (channels stored) point h.0) (valid-bytes stored points h.1)

-- so where they fit and there is room, their encoding is what is put
module _ (w : ℕ) (stored : List Bool) (order : Order) (count : ℕ) (values : List ℤ) (fitting : judgement_of w stored order count values ≡ Ok tt) where
  abbrev points : List (List ℤ)
  points = points_of order count (size stored) values

  valid : All (ValidPoint w stored) points
  valid = (fits-valid w stored order count values fitting).1

  pub fits-length : length (flat_map (encode_point w stored) points) ≡ count * width w stored
  fits-length = points-length w stored points valid ∙ ap (λ n. n * width w stored) (points-many order count (size stored) values)

  pub put-laid : {out t : List ℕ} {at end : ℕ} → Room out at (flat_map (encode_point w stored) points) → writing end t ≡ put_of w stored order count values out at
      → Laid out at (flat_map (encode_point w stored) points) t end
  unfolding put_of
  put-laid {out} {t} {at} {end} room e =
      let a = eq-eqb (length values) (count * size stored) (fits-valid w stored order count values fitting).0 in
      let b = le-leb (at + count * width w stored) (length out) (omega (arith, room.enough, fits-length)) in
      let x : writing end t ≡ writing (at + count * width w stored) (puts out at (bytes_of w stored points)) = e ∙ rw (a, b) in
      record { place = ap (λ v. v.answer) x ∙ ap (λ n. at + n) (sym fits-length); bytes = ap (λ v. v.bytes) x ∙ ap (puts out at) (valid-bytes w stored points valid) }

-- ---- Points laid out

each-size : (w : ℕ) (l : List ℕ) (vs : List ℤ) → Fitted w l vs → length vs ≡ length l
each-size w [] [] h = refl
each-size w [] (v ∷ vs) h = absurd h
each-size w (channel ∷ l) [] h = absurd h
each-size w (channel ∷ l) (v ∷ vs) h = ap suc (each-size w l vs h.1)

pub valid-sizes : (w : ℕ) (stored : List Bool) (points : List (List ℤ)) → All (ValidPoint w stored) points → All (λ p. length p ≡ size stored) points
unfolding ValidPoint
valid-sizes w stored [] h = tt
valid-sizes w stored (p ∷ points) h = (each-size w (channels stored) p h.0, valid-sizes w stored points h.1)

-- so valid points fit, laid out in either order
pub laid-fits : (w : ℕ) (stored : List Bool) (order : Order) (points : List (List ℤ)) → All (ValidPoint w stored) points
    → judgement_of w stored order (length points) (values_of order (size stored) points) ≡ Ok tt
laid-fits w stored order points h =
    let n = valid-sizes w stored points h in
    valid-fits w stored order (length points) (values_of order (size stored) points) (values-many (size stored) points n order) (rw (points-again (size stored) points n order) h)

-- ---- Which number doesn't fit

module _ (w : ℕ) (values : List ℤ) (d : ℕ) (P : Ranged → Type 0) where
  -- the rth sample value of a point, by its index and its channel
  abbrev nth : List ℕ → (from r : ℕ) → Ranged
  nth l from r = Value (from + r * d) (get_or l r 0) fits_if fits_sample w (get_or l r 0) (get_or values (from + r * d) (pos 0))

  -- what holds of each holds of all of a point, and of many points
  all_in : (l : List ℕ) (from : ℕ) → ((r : ℕ) → r < length l → P (nth l from r)) → All P (samples_in w d l values from)
  unfolding samples_in
  all_in [] from h = tt
  all_in (channel ∷ l) from h =
      let z : from + 0 * d ≡ from = omega arith in
      (rw z at (h 0 (omega arith)), all_in l (from + d) (λ r q. let y : from + d + r * d ≡ from + suc r * d = omega arith in rw y (h (suc r) (omega arith))))

  all_from : (l : List ℕ) (p n from : ℕ) → ((i r : ℕ) → i < n → r < length l → P (nth l (from + i * p) r)) → All P (samples_from w d l values p n from)
  unfolding samples_from
  all_from l p zero from h = tt
  all_from l p (suc n) from h =
      let z : from + 0 * p ≡ from = omega arith in
      all_append
      P
      (samples_in w d l values from)
      (samples_from w d l values p n (from + p))
      (all_in l from (λ r q. rw z at (h 0 r (omega arith) q)))
      (all_from l p n (from + p) (λ i r q g. let y : from + p + i * p ≡ from + suc i * p = omega arith in rw y (h (suc i) r (omega arith) g)))

module _ (w : ℕ) (stored : List Bool) (order : Order) (count : ℕ) (values : List ℤ) where
  -- a sample value that doesn't fit its channel: by its point and its rank there, which give its index among the values and its channel
  pub record Misfit (name : Quantity) : Type 0 where
    pub point : ℕ
    pub rank : ℕ
    pub counted : point < count
    pub among : rank < size stored
    pub is : name ≡ Value (index order count (size stored) point rank) (get_or (channels stored) rank 0)
    pub outside : fits_sample w (get_or (channels stored) rank 0) (get_or values (index order count (size stored) point rank) (pos 0)) ≡ false

  -- the number that is named is one
  pub misfit-is : (name : Quantity) → FirstOutside (samples w stored order count values) name → Misfit name
  unfolding samples
  misfit-is name x =
      of-first
      (λ number. number.fits ≡ false → Misfit number.name)
      (samples w stored order count values)
      name
      (all_from w values (stride order count) _ (channels stored) (step order (size stored)) count 0 (λ i r h g e.
      let z : 0 + i * step order (size stored) ≡ i * step order (size stored) = omega arith in
      record { point = i; rank = r; counted = h; among = g; is = rw z; outside = rw z at e }))
      x
      refl

-- it is named exactly where the amount is right and it is the first in point order
pub misfit-exactly : (w : ℕ) (stored : List Bool) (order : Order) (count : ℕ) (values : List ℤ) (name : Quantity)
    → (judgement_of w stored order count values ≡ Err (OutOfRange name)) ↔ ((length values ≡ count * size stored) × FirstOutside (samples w stored order count values) name)
unfolding judgement_of or_else require
misfit-exactly w stored order count values name = (
  λ e. go (eqb (length values) (count * size stored)) refl e,
  λ h. rw (eq-eqb (length values) (count * size stored) h.0) (first-named (samples w stored order count values) name h.1),
)
  where
    go : (t : Bool) → eqb (length values) (count * size stored) ≡ t → or_else (require t Amount) (first_misfit (samples w stored order count values)) ≡ Err (OutOfRange name)
        → (length values ≡ count * size stored) × FirstOutside (samples w stored order count values) name
    go true a e = (eqb-true (length values) (count * size stored) a, named-first (samples w stored order count values) name e)
    go false a e = impossible (cc)
