-- The same values are judged the same in both orders: they are met in point order in either, so the first that does not fit is one number, by its two indices.
use Rattle.std.specs.Prelude.{◌≡◌, Bool, eqb, ℤ, pos, length, get_or, Result, Ok, Err, ⊤}
use Rattle.std.proofs.Math.Path.{refl}
use Rattle.std.proofs.Math.Logic.{inl, inr}
use Rattle.std.proofs.Math.Bool.{true, false}
use mathlib.Core.List.{List, [], ◌∷◌}
use Prim.Native.Nat.{ℕ, zero, suc, ◌+◌, ◌*◌, ◌<◌}
use native.Mathlib.Omega.{arith}
use Rattle.formats.specs.Bytes.{impossible}
use Rattle.refusals.specs.Stages.{require, or_else}
use Rattle.refusals.specs.Ranges.{first_misfit}
use Rattle.refusals.proofs.RangeLaws.{joined}
use Rattle.refusals.specs.declared.Quantity.TheVariants.{Value}
use Rattle.refusals.specs.declared.Refusal.{Refusal}
use Rattle.refusals.specs.declared.Refusal.TheVariants.{OutOfRange, Amount}
use Rattle.points.specs.Points.{channels, fits_sample}
use Rattle.orders.specs.Orders.{size, step, stride, index, Same}
use Rattle.orders.specs.declared.Order.TheVariants.{Point, Column}
use Rattle.values.specs.Values.{samples_in, samples_from, samples, judgement_of}
use Rattle.values.specs.BothOrders.{NamesNoValue, OneNumber, SameJudgement}

module _ (count k : ℕ) where
  -- ---- Stages

  -- one stage behind the other, and a stage that knows of no order
  pub same-behind : (a b c d : Result ⊤ Refusal) → SameJudgement count k a b → SameJudgement count k c d → SameJudgement count k (or_else a c) (or_else b d)
  unfolding or_else
  same-behind (Ok _) (Ok _) c d h g = g
  same-behind (Ok _) (Err y) c d h g = absurd h
  same-behind (Err x) (Ok _) c d h g = absurd h
  same-behind (Err x) (Err y) c d h g = h

  pub same-stage : (j : Result ⊤ Refusal) → ((refusal : Refusal) → j ≡ Err refusal → NamesNoValue refusal) → SameJudgement count k j j
  same-stage (Ok _) h = tt
  same-stage (Err refusal) h = inl (refl, h refusal refl)

  pub same_test : (t : Bool) (refusal : Refusal) → NamesNoValue refusal → SameJudgement count k (require t refusal) (require t refusal)
  unfolding require
  same_test true refusal h = tt
  same_test false refusal h = inl (refl, h)

  -- ---- Values

  module _ (w : ℕ) (rows columns : List ℤ) (d e : ℕ) where
    -- a number in both, by its index in each
    abbrev Met : (row column : ℕ) → Type 0
    Met row column = (get_or rows row (pos 0) ≡ get_or columns column (pos 0)) × OneNumber count k row column

    same-sample : (channel row column : ℕ) → Met row column
        → SameJudgement count k
        (require (fits_sample w channel (get_or rows row (pos 0))) (OutOfRange (Value row channel)))
        (require (fits_sample w channel (get_or columns column (pos 0))) (OutOfRange (Value column channel)))
    unfolding require
    same-sample channel row column m = rw m.0 (go (fits_sample w channel (get_or columns column (pos 0))))
      where
        go : (t : Bool) → SameJudgement count k (require t (OutOfRange (Value row channel))) (require t (OutOfRange (Value column channel)))
        go true = tt
        go false = inr (record { row = row; column = column; channel = channel; one = m.1; in_rows = refl; in-columns = refl })

    same_in : (l : List ℕ) (from start : ℕ) → ((r : ℕ) → r < length l → Met (from + r * d) (start + r * e))
        → SameJudgement count k (first_misfit (samples_in w d l rows from)) (first_misfit (samples_in w e l columns start))
    unfolding samples_in first_misfit
    same_in [] from start h = tt
    same_in (channel ∷ l) from start h =
        same-behind
        (require (fits_sample w channel (get_or rows from (pos 0))) (OutOfRange (Value from channel)))
        (require (fits_sample w channel (get_or columns start (pos 0))) (OutOfRange (Value start channel)))
        (first_misfit (samples_in w d l rows (from + d)))
        (first_misfit (samples_in w e l columns (start + e)))
        (let y : from + 0 * d ≡ from = omega arith in let z : start + 0 * e ≡ start = omega arith in same-sample channel from start (rw (y, z) at (h 0 (omega arith))))
        (same_in l (from + d) (start + e) (λ r q.
        let y : from + suc r * d ≡ from + d + r * d = omega arith in
        let z : start + suc r * e ≡ start + e + r * e = omega arith in
        rw (y, z) at (h (suc r) (omega arith))))

    same_from : (l : List ℕ) (p q n from start : ℕ) → ((i r : ℕ) → i < n → r < length l → Met (from + i * p + r * d) (start + i * q + r * e))
        → SameJudgement count k (first_misfit (samples_from w d l rows p n from)) (first_misfit (samples_from w e l columns q n start))
    unfolding samples_from first_misfit
    same_from l p q zero from start h = tt
    same_from l p q (suc n) from start h =
        rw (joined (samples_in w d l rows from) (samples_from w d l rows p n (from + p)), joined (samples_in w e l columns start) (samples_from w e l columns q n (start + q)))
        (same-behind
        (first_misfit (samples_in w d l rows from))
        (first_misfit (samples_in w e l columns start))
        (first_misfit (samples_from w d l rows p n (from + p)))
        (first_misfit (samples_from w e l columns q n (start + q)))
        (same_in l from start (λ r g.
        let y : from + 0 * p + r * d ≡ from + r * d = omega arith in
        let z : start + 0 * q + r * e ≡ start + r * e = omega arith in
        rw (y, z) at (h 0 r (omega arith) g)))
        (same_from l p q n (from + p) (start + q) (λ i r f g.
        let y : from + suc i * p + r * d ≡ from + p + i * p + r * d = omega arith in
        let z : start + suc i * q + r * e ≡ start + q + i * q + r * e = omega arith in
        rw (y, z) at (h (suc i) r (omega arith) g))))

-- as many values, and the same, are judged the same in both orders
pub same-judged : (w : ℕ) (stored : List Bool) (count : ℕ) (rows columns : List ℤ) → length rows ≡ length columns → Same count (size stored) rows columns
    → SameJudgement count (size stored) (judgement_of w stored Point count rows) (judgement_of w stored Column count columns)
unfolding judgement_of samples
same-judged w stored count rows columns e same =
    rw e
    (same-behind count (size stored)
    (require (eqb (length columns) (count * size stored)) Amount)
    (require (eqb (length columns) (count * size stored)) Amount)
    _
    _
    (same_test count (size stored) (eqb (length columns) (count * size stored)) Amount (λ at channel h. impossible (cc)))
    (same_from count (size stored) w rows columns (stride Point count) (stride Column count) (channels stored) (step Point (size stored)) (step Column (size stored)) count 0 0 (λ i r h g.
    let y : 0 + i * step Point (size stored) + r * stride Point count ≡ index Point count (size stored) i r = omega arith in
    let z : 0 + i * step Column (size stored) + r * stride Column count ≡ index Column count (size stored) i r = omega arith in
    rw (y, z) (same i r h g, record { point = i; rank = r; counted = h; among = g; in_rows = refl; in-columns = refl }))))
