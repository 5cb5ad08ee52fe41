-- Numbers of 32 and 64 bits that hold a channel's number, its offset, and their sum.
use Rattle.std.specs.Prelude.{Option, None}
use mathlib.Core.Bool.{Bool, true, false, not, cond, ◌&&◌}
use mathlib.Core.Path.{◌≡◌, refl, sym, ap}
use Prim.Native.Nat.{ℕ, zero, suc, ◌-◌, ◌<◌, ◌≤◌, ◌^◌}
use native.Mathlib.Omega.{arith}
use lib.IntN.{ℤ, pos, negsuc, nat_abs, ◌+ℤ◌, ◌-ℤ◌, sub_ℕ}
use lib.Signed.{lt_z, le_z, non_neg}
use lib.Dec.{T, ltb, ltb→lt}
use mir.Syntax.{w16, w32, w64}
use mir.Val.{SFits, Fits, to_z, of_z}
use mir.ValLaws.{to_z-of_z}
use borrow.Author.Tests.{ltb-true, ltb-false, lt-ltb, le-ltb, leb-true, leb-false}
use Rattle.formats.specs.Bytes.{impossible}
use Rattle.channels.specs.Channel.{width_of}
use Rattle.channels.specs.Stored.{offset, value_of, fits, stored-above}
use Rattle.channels.specs.declared.Format.{Format}
use Rattle.channels.specs.declared.Format.TheVariants.{Full, Compact}

-- what holds of both forms of a difference holds of it
pub sub-ind : (P : ℤ → Type 0) (a b : ℕ) → (a < b → P (negsuc (b - suc a))) → (b ≤ a → P (pos (a - b))) → P (sub_ℕ a b)
sub-ind P a b f g = go (ltb a b) refl
  where
    go : (t : Bool) → ltb a b ≡ t → P (sub_ℕ a b)
    go true e = rw (lt-ltb a b (ltb-true a b e)) (f (ltb-true a b e))
    go false e = rw (le-ltb a b (ltb-false a b e)) (g (ltb-false a b e))

-- an offset, and the first number that is too large
pub record Offset (z : ℤ) : Type 0 where
  pub number : ℕ
  pub is : z ≡ pos number
  pub below : number ≤ 32768

pub offset-small : (format : Format) (signed : Bool) → Offset (offset (width_of format) signed)
unfolding offset
offset-small Full true = record { number = 32768; is = refl; below = omega arith }
offset-small Compact true = record { number = 128; is = refl; below = omega arith }
offset-small format false = record { number = 0; is = refl; below = omega arith }

pub limit : (format : Format) → 256 ^ width_of format ≤ 65536
limit Full = omega arith
limit Compact = omega arith

pub limit-fits : (format : Format) → SFits w64 (pos (256 ^ width_of format))
limit-fits format = record { sfits = omega (arith, limit format) }

pub offset-fits : (format : Format) (signed : Bool) → SFits w32 (offset (width_of format) signed)
offset-fits format signed =
    let o = offset-small format signed in
    let q : o.number ≤ 32768 = o.below in
    rw o.is (record { sfits = omega arith })

-- a stored number less an offset
less : (n k : ℕ) → n < 65536 → k ≤ 32768 → SFits w32 (pos n -ℤ pos k)
less n zero h g = record { sfits = omega arith }
less n (suc k) h g = sub-ind (SFits w32) n (suc k) (λ q. record { sfits = omega arith }) (λ q. record { sfits = omega arith })

pub value-fits : (format : Format) (signed : Bool) (n : ℕ) → n < 65536 → SFits w32 (pos n -ℤ offset (width_of format) signed)
value-fits format signed n h = let o = offset-small format signed in rw o.is (less n o.number h o.below)

-- a number and an offset, and their sum
pub wide : (z : ℤ) → SFits w32 z → SFits w64 z
wide (pos n) h = record { sfits = omega (arith, h.sfits) }
wide (negsuc n) h = record { sfits = omega (arith, h.sfits) }

more : (z : ℤ) (k : ℕ) → SFits w32 z → k ≤ 32768 → SFits w64 (z +ℤ pos k)
more (pos n) k h g = record { sfits = omega (arith, h.sfits) }
more (negsuc n) k h g = sub-ind (SFits w64) k (suc n) (λ q. record { sfits = omega (arith, h.sfits) }) (λ q. record { sfits = omega arith })

module _ (format : Format) (signed : Bool) (v : ℤ) (h : SFits w32 v) where
  pub sum_fits : SFits w64 (v +ℤ offset (width_of format) signed)
  sum_fits = let o = offset-small format signed in rw o.is (more v o.number h o.below)

  -- as the machine has it, and as it is meant
  pub sum : (z : ℤ) → z ≡ offset (width_of format) signed
      → to_z w64 (of_z w64 (to_z w32 (of_z w32 v))) +ℤ to_z w64 (of_z w64 (to_z w32 (of_z w32 z))) ≡ v +ℤ offset (width_of format) signed
  sum z e =
      let f = offset-fits format signed in
      rw (e, to_z-of_z w32 v h, to_z-of_z w64 v (wide v h), to_z-of_z w32 _ f, to_z-of_z w64 _ (wide _ f))

-- how far a number that fits is above the least of its kind: no bits are lost
within : (m : ℕ) → m ≤ 65536 → (z : ℤ) → T (non_neg z && lt_z z (pos m)) → SFits w32 z × (T (non_neg z) × Fits w16 (nat_abs z))
within m l (pos n) h = let g = ltb→lt n m h in (record { sfits = omega arith }, (tt, record { fits = omega arith }))
within m l (negsuc n) h = absurd h

pub above-fits : (format : Format) (signed : Bool) (v : ℤ) → T (fits (width_of format) signed v)
    → SFits w32 (v -ℤ value_of (width_of format) signed 0)
    × (T (non_neg (v -ℤ value_of (width_of format) signed 0)) × Fits w16 (nat_abs (v -ℤ value_of (width_of format) signed 0)))
unfolding fits
above-fits format signed v h = rw (stored-above (width_of format) signed v) (within (256 ^ width_of format) (limit format) _ h)

-- the tests for a number that is too small or too large, and the cast of one that is neither
judged : (m : ℕ) (y : ℤ) (s t : Bool) → lt_z y (pos 0) ≡ s → le_z (pos m) y ≡ t → (non_neg y && lt_z y (pos m)) ≡ (not s && not t)
judged m (pos n) true t h g = absurd (omega (arith, ltb-true n 0 h))
judged m (pos n) false true h g = le-ltb n m (leb-true m n g)
judged m (pos n) false false h g = lt-ltb n m (leb-false m n g)
judged m (negsuc n) true t h g = refl
judged m (negsuc n) false t h g = impossible (cc)

pub small : (m : ℕ) → m ≤ 65536 → (y : ℤ) → lt_z y (pos 0) ≡ false → le_z (pos m) y ≡ false → T (non_neg y) × Fits w16 (nat_abs y)
small m l (pos n) h g = (tt, record { fits = omega (arith, leb-false m n g) })
small m l (negsuc n) h g = impossible (cc)

-- so what is stored is found by the two tests
module _ (m : ℕ) (y : ℤ) (s t : Bool) (h : lt_z y (pos 0) ≡ s) (g : le_z (pos m) y ≡ t) where
  pub found : (x : Option ℕ) → cond (not s && not t) x None ≡ cond (non_neg y && lt_z y (pos m)) x None
  found x = sym (ap (λ z. cond z x None) (judged m y s t h g))
