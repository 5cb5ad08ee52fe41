-- `readings::divide_nearest` meets its contract: quotient and remainder have the sizes N / D and N % D, and a remainder of half of D or more takes the quotient one further from zero. Assumes nothing.
use mathlib.Core.Path.{◌≡◌, refl, sym, ap, ◌∙◌}
use mathlib.Core.Bool.{Bool, true, false}
use Prim.Native.Nat.{ℕ, zero, suc, ◌+◌, ◌-◌, ◌*◌, ◌/◌, ◌%◌, ◌^◌, ◌≤◌, ◌<◌}
use native.Mathlib.Nat.{div-le_self, div-add-mod', mod-lt, mul-le-mul_left, mul_left_comm, add-mul, div-eq_of_lt-le, add-zero, sub-zero}
use native.Mathlib.Omega.{arith}
use borrow.Author.Tests.{ltb-true, leb-true, leb-false, le-ltb}
use lib.Dec.{leb, ltb→lt}
use lib.IntN.{ℤ, pos, negsuc, neg_ℤ, nat_abs, ◌+ℤ◌, ◌-ℤ◌, neg_ℤ-neg_ℤ, neg_ℤ-+ℤ, +ℤ_idl}
use lib.Signed.{quot_z, rem_z, lt_z, le_z, ◌<ℤ◌}
use mir.Syntax.{w64}
use mir.Val.{SFits, of_z}
use mir.Facts.{to_z-of_z}
use Rattle.readings.specs.Thousandths.{half_up, nearest}
use Rattle.calibration.proofs.Tested.{read}
use Rattle.readings.proofs.Held.{minus, pos-fits, minus-fits, fits-as, read_as}
use Rattle.readings.proofs.divide_nearest.Goals as goal
use Rattle.readings.proofs.divide_nearest.Goals.{Start}

-- ---- The sizes

module _ (N D : ℕ) (some : 0 < D) where
  whole : N / D * (2 * D) + 2 * (N % D) ≡ 2 * N
  whole = let e = div-add-mod' N D in rw (mul_left_comm (N / D) 2 D) (omega (arith, e))

  -- half of D or more remains: one more, for which there is room
  goes-up : D - N % D ≤ N % D → (half_up N D ≡ N / D + 1) × (N / D + 1 ≤ N)
  goes-up k =
      let r = mod-lt N some in
      let e = whole in
      let m = mul-le-mul_left {m = 2} {n = D} (N / D) (omega arith) in
      let l : (N / D + 1) * (2 * D) ≤ 2 * N + D = rw (add-mul (N / D) 1 (2 * D)) (omega arith) in
      let u : 2 * N + D < (N / D + 1 + 1) * (2 * D) = rw (add-mul (N / D + 1) 1 (2 * D), add-mul (N / D) 1 (2 * D)) (omega arith) in
      (div-eq_of_lt-le (2 * D) l u, omega (arith, div-add-mod' N D))

  stays : N % D < D - N % D → half_up N D ≡ N / D
  stays k =
      let e = whole in
      let u : 2 * N + D < (N / D + 1) * (2 * D) = rw (add-mul (N / D) 1 (2 * D)) (omega arith) in
      div-eq_of_lt-le (2 * D) (omega arith) u

-- ---- One branch, whatever its sign

-- x and y are the two sides of its test, q the quotient, u one further from zero, r what is to be answered
record Rounds (x y q u r : ℤ) : Type 0 where
  x_fits : SFits w64 x
  y-fits : SFits w64 y
  up_fits : le_z (read x) (read y) ≡ true → SFits w64 u
  up : le_z (read x) (read y) ≡ true → read u ≡ r
  stay : le_z (read x) (read y) ≡ false → read q ≡ r

module _ (sign : ℕ → ℤ) (N D : ℕ) (some : 0 < D) (df : D < 2 ^ 63) (room : (m : ℕ) → m ≤ N → SFits w64 (sign m)) where
  rounds : {x y q u r : ℤ} → x ≡ pos (D - N % D) → y ≡ pos (N % D) → q ≡ sign (N / D) → u ≡ sign (N / D + 1) → r ≡ sign (half_up N D) → Rounds x y q u r
  rounds {x} {y} {q} {u} {r} ex ey eq eu er =
      let l = mod-lt N some in
      let xf = pos-fits (D - N % D) (omega arith) in
      let yf = pos-fits (N % D) (omega arith) in
      let test : (t : Bool) → le_z (read x) (read y) ≡ t → leb (D - N % D) (N % D) ≡ t = λ t k. sym (cc (read_as ex xf, read_as ey yf)) ∙ k in
      let more : le_z (read x) (read y) ≡ true → (half_up N D ≡ N / D + 1) × (N / D + 1 ≤ N) = λ k. goes-up N D some (leb-true _ _ (test true k)) in
      record {
        x_fits = fits-as ex xf;
        y-fits = fits-as ey yf;
        up_fits = λ k. fits-as eu (room (N / D + 1) (more k).1);
        up = λ k. read_as eu (room (N / D + 1) (more k).1) ∙ sym (er ∙ ap sign (more k).0);
        stay = λ k. read_as eq (room (N / D) (div-le_self N D)) ∙ sym (er ∙ ap sign (stays N D some (leb-false _ _ (test false k))));
      }

-- ---- The two branches: the quotient and the remainder, as the machine finds them

abbrev Q : ℤ → ℤ → ℤ
Q n d = quot_z (read n) (read d)

abbrev R : ℤ → ℤ → ℤ
R n d = rem_z (read n) (read d)

take-away : (a b : ℕ) → b ≤ a → pos a -ℤ pos b ≡ pos (a - b)
take-away a zero h = rw (add-zero, sub-zero)
take-away a (suc b) h = rw (le-ltb a (suc b) h)

abbrev Below : ℤ → ℤ → Type 0
Below n d = Rounds (read d +ℤ read (R n d)) (pos 0 -ℤ read (R n d)) (Q n d) (read (Q n d) -ℤ pos 1) (nearest n (nat_abs d))

abbrev Above : ℤ → ℤ → Type 0
Above n d = Rounds (read d -ℤ read (R n d)) (R n d) (Q n d) (read (Q n d) +ℤ pos 1) (nearest n (nat_abs d))

below : (n d : ℤ) → SFits w64 n → SFits w64 d → pos 0 <ℤ d → lt_z (read n) (pos 0) ≡ true → Below n d
unfolding nearest
below n (negsuc D) nf df p t = absurd p.lt
below (pos a) (pos D) nf df p t = let k = ltb-true a 0 (rw (to_z-of_z nf) at t) in absurd (omega arith)
below (negsuc a) (pos D) nf df p t =
    let some = ltb→lt 0 D p.lt in
    let l = mod-lt (suc a) some in
    let bn = nf.sfits in
    let bd = df.sfits in
    let q : Q (negsuc a) (pos D) ≡ minus (suc a / D) = cc (to_z-of_z nf, to_z-of_z df) in
    let r : R (negsuc a) (pos D) ≡ minus (suc a % D) = cc (to_z-of_z nf, to_z-of_z df) in
    let room : (m : ℕ) → m ≤ suc a → SFits w64 (minus m) = λ m k. minus-fits m (omega arith) in
    let qr = read_as q (room (suc a / D) (div-le_self (suc a) D)) in
    let rr = read_as r (minus-fits (suc a % D) (omega arith)) in
    rounds minus (suc a) D some bd room
    (cc (to_z-of_z df, rr, take-away D (suc a % D) (omega arith)))
    (cc (rr, +ℤ_idl (neg_ℤ (minus (suc a % D))), neg_ℤ-neg_ℤ (pos (suc a % D))))
    q
    (ap (λ (z : ℤ). z -ℤ pos 1) qr ∙ sym (neg_ℤ-+ℤ (pos (suc a / D)) (pos 1)))
    refl

above : (n d : ℤ) → SFits w64 n → SFits w64 d → pos 0 <ℤ d → lt_z (read n) (pos 0) ≡ false → Above n d
unfolding nearest
above n (negsuc D) nf df p t = absurd p.lt
above (negsuc a) (pos D) nf df p t = let z : ◌≡◌ {A = ℕ} 0 1 = cc (rw (to_z-of_z nf) at t) in absurd (omega arith)
above (pos a) (pos D) nf df p t =
    let some = ltb→lt 0 D p.lt in
    let l = mod-lt a some in
    let bn = nf.sfits in
    let bd = df.sfits in
    let q : Q (pos a) (pos D) ≡ pos (a / D) = cc (to_z-of_z nf, to_z-of_z df) in
    let r : R (pos a) (pos D) ≡ pos (a % D) = cc (to_z-of_z nf, to_z-of_z df) in
    let room : (m : ℕ) → m ≤ a → SFits w64 (pos m) = λ m k. pos-fits m (omega arith) in
    let qr = read_as q (room (a / D) (div-le_self a D)) in
    let rr = read_as r (pos-fits (a % D) (omega arith)) in
    rounds pos a D some bd room (cc (to_z-of_z df, rr, take-away D (a % D) (omega arith))) r q (ap (λ (z : ℤ). z +ℤ pos 1) qr) refl

-- the divisor is not 0, and the quotient is no larger than n
divides : (n d : ℤ) → SFits w64 n → SFits w64 d → pos 0 <ℤ d → (0 < of_z w64 d) × SFits w64 (Q n d)
divides n (negsuc D) nf df p = absurd p.lt
divides (pos a) (pos D) nf df p =
    let bn = nf.sfits in
    (ltb→lt 0 D p.lt, fits-as {y = pos (a / D)} (cc (to_z-of_z nf, to_z-of_z df)) (pos-fits (a / D) (omega (arith, div-le_self a D))))
divides (negsuc a) (pos D) nf df p =
    let bn = nf.sfits in
    (ltb→lt 0 D p.lt, fits-as {y = minus (suc a / D)} (cc (to_z-of_z nf, to_z-of_z df)) (minus-fits (suc a / D) (omega (arith, div-le_self (suc a) D))))

-- ---- The needs

starts : (c : Start) → (0 < of_z w64 c.args.d) × SFits w64 (Q c.args.n c.args.d)
starts c = divides c.args.n c.args.d c.ranges.n c.ranges.d c.requires

-- the facts of each branch
lower : (c : Start) → lt_z (read c.args.n) (pos 0) ≡ true → Below c.args.n c.args.d
lower c t = below c.args.n c.args.d c.ranges.n c.ranges.d c.requires t

upper : (c : Start) → lt_z (read c.args.n) (pos 0) ≡ false → Above c.args.n c.args.d
upper c t = above c.args.n c.args.d c.ranges.n c.ranges.d c.requires t

pub nonzero_div-q : goal.nonzero_div-q
nonzero_div-q c = starts c

pub nonzero_rem-r : goal.nonzero_rem-r
nonzero_rem-r c = starts c

pub overflow_add-d : goal.overflow_add-d
overflow_add-d c = (lower (goal.at.overflow_add-d c).Start c.if-n-lt0.true).x_fits

pub overflow_sub-r : goal.overflow_sub-r
overflow_sub-r c = (lower (goal.at.overflow_sub-r c).Start c.if-n-lt0.true).y-fits

pub overflow_sub-d : goal.overflow_sub-d
overflow_sub-d c = (upper (goal.at.overflow_sub-d c).Start c.if-n-lt0.false).x_fits

-- less than half of d remains
pub returns-else-d-r : goal.returns-else-d-r
returns-else-d-r c = (lower (goal.at.returns-else-d-r c).Start c.if-n-lt0.true).stay c.if-d-r.false

pub returns-else-d-r-2 : goal.returns-else-d-r-2
returns-else-d-r-2 c = (upper (goal.at.returns-else-d-r-2 c).Start c.if-n-lt0.false).stay c.if-d-r-2.false

-- half of d or more remains
pub overflow_sub-result : goal.overflow_sub-result
overflow_sub-result c = (lower (goal.at.overflow_sub-result c).Start c.if-n-lt0.true).up_fits c.if-d-r.true

pub overflow_add-result : goal.overflow_add-result
overflow_add-result c = (upper (goal.at.overflow_add-result c).Start c.if-n-lt0.false).up_fits c.if-d-r-2.true

pub returns-then-d-r : goal.returns-then-d-r
returns-then-d-r c = (lower (goal.at.returns-then-d-r c).Start c.if-n-lt0.true).up c.if-d-r.true

pub returns-then-d-r-2 : goal.returns-then-d-r-2
returns-then-d-r-2 c = (upper (goal.at.returns-then-d-r-2 c).Start c.if-n-lt0.false).up c.if-d-r-2.true
