-- The numbers that a signed word of 64 bits holds, by their size. Assumes nothing.
use mathlib.Core.Path.{◌≡◌, refl, sym, ◌∙◌, subst}
use Prim.Native.Nat.{ℕ, zero, suc, ◌*◌, ◌^◌, ◌≤◌, ◌<◌}
use native.Mathlib.Omega.{arith}
use lib.IntN.{ℤ, pos, negsuc, neg_ℤ, nat_abs, ◌*ℤ◌}
use mir.Syntax.{w64}
use mir.Val.{SFits}
use mir.Facts.{to_z-of_z}
use Rattle.calibration.proofs.Tested.{read}

abbrev pub minus : ℕ → ℤ
minus n = neg_ℤ (pos n)

pub pos-fits : (n : ℕ) → n < 2 ^ 63 → SFits w64 (pos n)
pos-fits n h = record { sfits = h }

pub minus-fits : (n : ℕ) → n ≤ 2 ^ 63 → SFits w64 (minus n)
minus-fits zero h = record { sfits = omega arith }
minus-fits (suc n) h = record { sfits = omega arith }

-- a number that is known as another, which fits: it fits too, and is read back as that
module _ {z y : ℤ} (e : z ≡ y) (f : SFits w64 y) where
  pub fits-as : SFits w64 z
  fits-as = subst (SFits w64) (sym e) f

  pub read_as : read z ≡ y
  read_as = to_z-of_z fits-as ∙ e

pub size-minus : (n : ℕ) → nat_abs (minus n) ≡ n
size-minus zero = refl
size-minus (suc n) = refl

-- a product with a number that is not negative
pub size-product : (k : ℕ) (z : ℤ) → nat_abs (pos k *ℤ z) ≡ k * nat_abs z
size-product k (pos n) = refl
size-product k (negsuc n) = size-minus (k * suc n)

pub product-fits : (k : ℕ) (z : ℤ) → k * nat_abs z < 2 ^ 63 → SFits w64 (pos k *ℤ z)
product-fits k (pos n) h = pos-fits (k * n) h
product-fits k (negsuc n) h = minus-fits (k * suc n) (omega arith)
