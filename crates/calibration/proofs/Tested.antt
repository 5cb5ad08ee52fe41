-- A number of 64 bits that was tested against k lies below or above m. Assumes nothing.
use mathlib.Core.Path.{◌≡◌, refl}
use mathlib.Core.Bool.{true, false}
use Prim.Native.Nat.{ℕ, ◌≤◌}
use native.Mathlib.Omega.{arith}
use borrow.Author.Tests.{ltb-true, ltb-false, lt-leb, le-leb}
use lib.IntN.{ℤ, pos, negsuc}
use lib.Signed.{lt_z, le_z}
use mir.Syntax.{w64}
use mir.Val.{to_z, of_z}

-- what is read back of a number's bits
abbrev pub read : ℤ → ℤ
read z = to_z w64 (of_z w64 z)

pub below-least : (z : ℤ) {k m : ℕ} → lt_z z (negsuc k) ≡ true → m ≤ k → le_z (negsuc m) z ≡ false
below-least (pos n) {k} {m} t h = let z : ◌≡◌ {A = ℕ} 0 1 = cc in absurd (omega arith)
below-least (negsuc n) {k} {m} t h = let l = ltb-true k n t in lt-leb n m (omega arith)

pub from-least : (z : ℤ) {k m : ℕ} → lt_z z (negsuc k) ≡ false → k ≤ m → le_z (negsuc m) z ≡ true
from-least (pos n) {k} {m} t h = refl
from-least (negsuc n) {k} {m} t h = let l = ltb-false k n t in le-leb n m (omega arith)

pub above-greatest : (z : ℤ) {k m : ℕ} → lt_z (pos k) z ≡ true → m ≤ k → le_z z (pos m) ≡ false
above-greatest (pos n) {k} {m} t h = let l = ltb-true k n t in lt-leb n m (omega arith)
above-greatest (negsuc n) {k} {m} t h = let z : ◌≡◌ {A = ℕ} 0 1 = cc in absurd (omega arith)

pub to-greatest : (z : ℤ) {k m : ℕ} → lt_z (pos k) z ≡ false → k ≤ m → le_z z (pos m) ≡ true
to-greatest (pos n) {k} {m} t h = let l = ltb-false k n t in le-leb n m (omega arith)
to-greatest (negsuc n) {k} {m} t h = refl
