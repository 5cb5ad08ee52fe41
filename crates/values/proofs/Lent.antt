-- What is left to judge and to put of a point, and of many points, when some of it is done; and that their numbers are among the values.
use Rattle.std.specs.Prelude.{Result, Ok, Err, Some, None, ⊤}
use mathlib.Core.Path.{◌≡◌, refl, sym, ap₂, ◌∙◌}
use mathlib.Core.Bool.{Bool, true, false, cond, ◌&&◌}
use mathlib.Core.List.{List, [], ◌∷◌, ◌++◌, flat_map}
use Prim.Native.Nat.{ℕ, zero, suc, ◌+◌, ◌-◌, ◌*◌, ◌≤◌, ◌<◌}
use native.Mathlib.Nat.{mul-le-mul_right, mul_comm}
use native.Mathlib.Omega.{arith}
use borrow.Author.Tests.{ne_eqb, eq-eqb, eqb-true, le-leb, lt-leb}
use lib.Dec.{eqb, leb}
use lib.IntN.{ℤ, pos}
use lib.ListN.{length, get_or, drop}
use Rattle.formats.specs.Bytes.{impossible}
use Rattle.formats.specs.Writes.{encode_each}
use Rattle.formats.specs.Put.{puts}
use Rattle.formats.specs.Lent.{Writing, writing}
use Rattle.formats.specs.Laid.{Room, Laid, Owed, laid_none}
use Rattle.refusals.specs.Stages.{require, or_else}
use Rattle.refusals.specs.Ranges.{first_misfit}
use Rattle.refusals.proofs.RangeLaws.{joined}
use Rattle.refusals.specs.declared.Quantity.TheVariants.{Value}
use Rattle.refusals.specs.declared.Refusal.TheVariants.{OutOfRange, Amount}
use Rattle.channels.specs.Channel.{S, signed_of}
use Rattle.channels.specs.Stored.{fits, stored_of, stored_if}
use Rattle.tip_switch.specs.Switch.{is_state, byte_of, byte_if}
use Rattle.points.specs.Points.{stored_from, channels, fits_sample, width}
use Rattle.orders.specs.Orders.{size, step, stride, numbers_from, points_from, points_of}
use Rattle.orders.proofs.OrderLaws.{index-within, step-within}
use Rattle.orders.specs.Parts.{many, AllAt}
use Rattle.orders.proofs.Left.{many-out, many-in}
use Rattle.values.specs.Values.{samples_in, samples_from, samples, judgement_of, stored_sample, sample_bytes, bytes_of, put_of}
use Rattle.values.proofs.ValueLaws.{points-bytes}
use Rattle.values.specs.Parts.{Inside, point_bytes, points_bytes, bytes_left}
use Rattle.orders.specs.declared.Order.{Order}
use Rattle.orders.specs.declared.Order.TheVariants.{Point, Column}
use Rattle.points.proofs.Samples.{stored-in, stored-out, stored-none}
use Rattle.refusals.specs.declared.Refusal.{Refusal}

-- ---- One number

module _ (w channel : ℕ) (v : ℤ) where
  pub stored-switch : channel ≡ S → stored_sample w channel v ≡ byte_if v
  unfolding stored_sample
  stored-switch e = rw (eq-eqb channel S e)

  pub stored_other : (channel ≡ S → ⊥) → stored_sample w channel v ≡ stored_if w (signed_of channel) v
  unfolding stored_sample
  stored_other e = rw (ne_eqb channel S e)

  -- what is stored says whether it fits
  pub fits-number : {n : ℕ} → stored_sample w channel v ≡ Some n → fits_sample w channel v ≡ true
  unfolding stored_sample fits_sample byte_if stored_if
  fits-number {n} e = go (eqb channel S) (is_state v) (fits w (signed_of channel) v) e
    where
      go : (t a b : Bool) → cond t (cond a (Some (byte_of v)) None) (cond b (Some (stored_of w (signed_of channel) v)) None) ≡ Some n → cond t a b ≡ true
      go true true b q = refl
      go true false b q = impossible (cc)
      go false a true q = refl
      go false a false q = impossible (cc)

  pub fits-outside : stored_sample w channel v ≡ None → fits_sample w channel v ≡ false
  unfolding stored_sample fits_sample byte_if stored_if
  fits-outside e = go (eqb channel S) (is_state v) (fits w (signed_of channel) v) e
    where
      go : (t a b : Bool) → cond t (cond a (Some (byte_of v)) None) (cond b (Some (stored_of w (signed_of channel) v)) None) ≡ None → cond t a b ≡ false
      go true true b q = impossible (cc)
      go true false b q = refl
      go false a true q = impossible (cc)
      go false a false q = refl

-- ---- Indices a stride apart

module _ (P : ℕ → Type 0) (d k m from : ℕ) (all : AllAt P d k from) (e : k ≡ 1 + m) where
  pub all_first : P from
  all_first = let z : from + 0 * d ≡ from = omega arith in rw z at (all 0 (omega arith))

  pub all-next : AllAt P d m (from + d)
  all-next r h = let z : from + suc r * d ≡ from + d + r * d = omega arith in rw z at (all (suc r) (omega arith))

-- the numbers of as many points as the amount says are among the values
module _ (count k : ℕ) (values : List ℤ) (amount : length values ≡ count * k) where
  pub points-inside : (order : Order) → AllAt (Inside values (stride order count) k) (step order k) count 0
  points-inside order i h r g = omega (arith, amount, index-within count k i r h g order)

  pub stride-within : (order : Order) → 0 < k → stride order count ≤ length values + 1
  unfolding stride
  stride-within Point h = omega arith
  stride-within Column h = omega (arith, amount, mul_comm count k, mul-le-mul_right {m = 1} {n = k} count (omega arith))

-- so a step p and a stride d may be taken
pub record Ready (values : List ℤ) (k count p d : ℕ) : Type 0 where
  pub stride : d ≤ length values + 1
  pub step : p ≤ 16
  pub some : 0 < k
  pub inside : AllAt (Inside values d k) p count 0

pub ready : (values : List ℤ) (order : Order) (count k n : ℕ) → eqb (length values) (count * k) ≡ true → n ≡ k → (n ≡ 0 → ⊥) → n ≤ 16 → {p d : ℕ} → p ≡ step order n → d ≡ stride order count → Ready values k count p d
ready values order count k n e same some small x y =
    let a = eqb-true (length values) (count * k) e in
    let q : 0 < k = omega arith in
    rw (x, y, same) (record { stride = stride-within count k values a order q; step = (step-within k q (omega arith) order).1; some = q; inside = points-inside count k values a order })

-- ---- A point: the channels from i on, and the numbers from an index on

-- they are among the values, and stay so: a channel that isn't stored takes none, and one that is takes the first
module _ (values : List ℤ) (d : ℕ) (stored : List Bool) (i at : ℕ) (h : i < length stored) (all : Inside values d (many stored i) at) where
  pub pass-inside : get_or stored i false ≡ false → Inside values d (many stored (i + 1)) at
  pass-inside e r q = all r (omega (arith, many-out stored i h e))

  pub record Taken : Type 0 where
    pub there : at < length values
    pub rest : Inside values d (many stored (i + 1)) (at + d)

  pub take-inside : get_or stored i false ≡ true → Taken
  take-inside e =
      let m = many-in stored i h e in
      record { there = all_first (λ j. j < length values) d _ _ at all m; rest = all-next (λ j. j < length values) d _ _ at all m }

module _ (w d : ℕ) (stored : List Bool) (values : List ℤ) where
  -- how they are judged
  unfoldable pub judge_left : ℕ → ℕ → Result ⊤ Refusal
  judge_left i at = first_misfit (samples_in w d (stored_from i (drop i stored)) values at)

  -- a channel that isn't stored is passed
  module _ (i at : ℕ) (h : i < length stored) (e : get_or stored i false ≡ false) where
    pub pass-judged : judge_left i at ≡ judge_left (i + 1) at
    unfolding judge_left
    pass-judged = rw (stored-out stored i h e)

    pub pass-bytes : bytes_left w d stored values i at ≡ bytes_left w d stored values (i + 1) at
    unfolding bytes_left
    pass-bytes = rw (stored-out stored i h e)

  -- a channel that is stored takes a number
  module _ (i at : ℕ) (h : i < length stored) (e : get_or stored i false ≡ true) where
    pub take-judged : judge_left i at ≡ or_else (require (fits_sample w i (get_or values at (pos 0))) (OutOfRange (Value at i))) (judge_left (i + 1) (at + d))
    unfolding judge_left samples_in first_misfit
    take-judged = rw (stored-in stored i h e)

    pub take-bytes : bytes_left w d stored values i at ≡ sample_bytes w i (get_or values at (pos 0)) ++ bytes_left w d stored values (i + 1) (at + d)
    unfolding bytes_left point_bytes encode_each numbers_from
    take-bytes = rw (stored-in stored i h e)

  pub judged-none : (i at : ℕ) → length stored ≤ i → judge_left i at ≡ Ok tt
  unfolding judge_left samples_in first_misfit
  judged-none i at h = rw (stored-none stored i h)

  pub bytes-none : (i at : ℕ) → length stored ≤ i → bytes_left w d stored values i at ≡ []
  unfolding bytes_left point_bytes encode_each
  bytes-none i at h = rw (stored-none stored i h)

-- what a run of channels leaves is left of what was to be laid before it
pub owed-run : {s : List ℕ} {start : ℕ} {b t : List ℕ} {at : ℕ} {c u : List ℕ} {n : ℕ} {e : List ℕ} → Owed s start b t at c → Owed t at c u n e → Owed s start b u n e
owed-run o p = record { place = o.place ∙ p.place; bytes = o.bytes ∙ p.bytes; kept = p.kept ∙ o.kept }

-- ---- Many points: those from i on, and the numbers from an index on

-- the first of them: its numbers are among the values, and so are those of the points behind it
pub record NextPoint (values : List ℤ) (d k p m from : ℕ) : Type 0 where
  pub inside : Inside values d k from
  pub rest : AllAt (Inside values d k) p m (from + p)
  pub there : from < length values

pub next-point : (values : List ℤ) (d k p n i from : ℕ) → i < n → 0 < k → AllAt (Inside values d k) p (n - i) from → NextPoint values d k p (n - (i + 1)) from
next-point values d k p n i from h some all =
    let m : n - i ≡ 1 + (n - (i + 1)) = omega arith in
    let inside = all_first (Inside values d k) p _ _ from all m in
    record { inside = inside; rest = all-next (Inside values d k) p _ _ from all m; there = all_first (λ j. j < length values) d k (k - 1) from inside (omega arith) }

module _ (w d : ℕ) (l : List ℕ) (values : List ℤ) (p n i from : ℕ) (h : i < n) where
  count : n - i ≡ suc (n - (i + 1))
  count = omega arith

  pub next-judged : first_misfit (samples_from w d l values p (n - i) from) ≡ or_else (first_misfit (samples_in w d l values from)) (first_misfit (samples_from w d l values p (n - (i + 1)) (from + p)))
  unfolding samples_from
  next-judged = rw count (joined (samples_in w d l values from) (samples_from w d l values p (n - (i + 1)) (from + p)))

  pub next-bytes : points_bytes w d l values p (n - i) from ≡ point_bytes w d l values from ++ points_bytes w d l values p (n - (i + 1)) (from + p)
  unfolding points_bytes point_bytes points_from flat_map
  next-bytes = rw count

module _ (w d : ℕ) (l : List ℕ) (values : List ℤ) (p n i from : ℕ) (h : n ≤ i) where
  over : n - i ≡ 0
  over = omega arith

  pub last-judged : first_misfit (samples_from w d l values p (n - i) from) ≡ Ok tt
  unfolding samples_from first_misfit
  last-judged = rw over

  pub last-bytes : points_bytes w d l values p (n - i) from ≡ []
  unfolding points_bytes points_from flat_map
  last-bytes = rw over

-- ---- The stages

no-numbers : (l : List ℕ) → length l ≡ 0 → l ≡ []
no-numbers [] e = refl
no-numbers (channel ∷ l) e = absurd (omega arith)

nothing-judged : (w d : ℕ) (values : List ℤ) (p n from : ℕ) → first_misfit (samples_from w d [] values p n from) ≡ Ok tt
unfolding samples_from samples_in first_misfit
nothing-judged w d values p zero from = refl
nothing-judged w d values p (suc n) from = nothing-judged w d values p n (from + p)

nothing_put : (w d : ℕ) (values : List ℤ) (p n from : ℕ) → points_bytes w d [] values p n from ≡ []
unfolding points_bytes points_from flat_map encode_each
nothing_put w d values p zero from = refl
nothing_put w d values p (suc n) from = nothing_put w d values p n (from + p)

module _ (w : ℕ) (stored : List Bool) (order : Order) (count : ℕ) (values : List ℤ) where
  abbrev amount : Bool
  amount = eqb (length values) (count * size stored)

  abbrev judgement : Result ⊤ Refusal
  judgement = judgement_of w stored order count values

  pub other-amount : amount ≡ false → judgement ≡ Err Amount
  unfolding judgement_of or_else require
  other-amount e = rw e

  pub same-amount : amount ≡ true → judgement ≡ first_misfit (samples_from w (stride order count) (channels stored) values (step order (size stored)) count 0)
  unfolding judgement_of samples or_else require
  same-amount e = rw e

  pub no-values : amount ≡ true → size stored ≡ 0 → judgement ≡ Ok tt
  no-values e q = same-amount e ∙ rw (no-numbers (channels stored) q) (nothing-judged w (stride order count) values (step order 0) count 0)

  module _ (out : List ℕ) (at : ℕ) where
    abbrev put : Writing ℕ
    put = put_of w stored order count values out at

    abbrev all : List ℕ
    all = points_bytes w (stride order count) (channels stored) values (step order (size stored)) count 0

    put-by : (a b : Bool) → amount ≡ a → leb (at + count * width w stored) (length out) ≡ b → put ≡ cond (a && b) (writing (at + count * width w stored) (puts out at all)) (writing at out)
    unfolding put_of bytes_of points_of points_bytes
    put-by a b e q = ap₂ (λ x y. cond (x && y) (writing (at + count * width w stored) (puts out at all)) (writing at out)) e q

    pub put-amount : amount ≡ false → put ≡ writing at out
    put-amount e = put-by false _ e refl

    pub put-room : amount ≡ true → length out < at + count * width w stored → put ≡ writing at out
    put-room e h = put-by true false e (lt-leb (at + count * width w stored) (length out) h)

    all-length : length all ≡ count * width w stored
    unfolding points_bytes width
    all-length = points-bytes w values (stride order count) (channels stored) (step order (size stored)) count 0

    module _ (e : amount ≡ true) (h : at + count * width w stored ≤ length out) where
      pub all_room : Room out at all
      all_room = record { enough = omega (arith, all-length) }

      pub put_all : {t : List ℕ} {end : ℕ} → Laid out at all t end → writing end t ≡ put
      put_all l = rw (l.place, l.bytes, all-length) (sym (put-by true true e (le-leb (at + count * width w stored) (length out) h)))

      pub put-nothing : size stored ≡ 0 → put ≡ writing at out
      unfolding puts
      put-nothing q =
          let z : all ≡ [] = rw (no-numbers (channels stored) q) (nothing_put w (stride order count) values (step order 0) count 0) in
          sym (put_all (rw z (laid_none out at)))
