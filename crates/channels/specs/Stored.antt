-- A channel's number, and the number of w bytes that is stored for it: two bytes in a record (7.3.4.4, 7.3.4.5, 7.4.2), one in a template (8.2.2.4).
use Rattle.std.specs.Prelude.{◌≡◌, refl, Bool, true, false, cond, ◌&&◌, ℕ, zero, suc, ◌-◌, ◌/◌, ◌^◌, ◌<◌, T, ℤ, negsuc, neg_ℤ, ◌+ℤ◌, ◌-ℤ◌, Option, Some, None}
use Rattle.std.proofs.Common.{sym, ap₂, ◌∙◌, arith, ltb→lt, lt→ltb}
use Rattle.std.proofs.Math.Path.{ap}
use Rattle.std.proofs.Math.Nat.{one-le-pow}
use Rattle.std.proofs.Math.Dec.{leb-zero, leb-suc-zero, leb-suc-suc}
use Rattle.std.proofs.Math.IntN.{pos, nat_abs, suc_ℤ, -ℤ-+ℤ_cancel, +ℤ-neg_ℤ_cancel, +ℤ_idl, +ℤ_idr, +ℤ-suc_ℤ, +ℤ_comm, neg_ℤ-neg_ℤ}
use Rattle.std.specs.Int.Signed.{non_neg, le_z, lt_z}

-- what is added to a signed number before it is stored: 32768 for two bytes, 128 for one
unfoldable pub offset : ℕ → Bool → ℤ
offset w true = pos (256 ^ w / 2)
offset w false = pos 0

-- the number that a stored one stands for
unfoldable pub value_of : ℕ → Bool → ℕ → ℤ
value_of w signed n = pos n -ℤ offset w signed

-- what is stored for a number
unfoldable pub stored_of : ℕ → Bool → ℤ → ℕ
stored_of w signed v = nat_abs (v +ℤ offset w signed)

-- the numbers that can be stored: with the offset added they are from 0 to below 256 ^ w
unfoldable pub fits : ℕ → Bool → ℤ → Bool
fits w signed v = non_neg (v +ℤ offset w signed) && lt_z (v +ℤ offset w signed) (pos (256 ^ w))

-- what code answers
unfoldable pub stored_if : ℕ → Bool → ℤ → Option ℕ
stored_if w signed v = cond (fits w signed v) (Some (stored_of w signed v)) None

-- ---- What follows, at every width

module _ (w : ℕ) (signed : Bool) where
  pub stored-value : (n : ℕ) → stored_of w signed (value_of w signed n) ≡ n
  unfolding stored_of value_of
  stored-value n = ap nat_abs (-ℤ-+ℤ_cancel (pos n) (offset w signed))

  pub value-fits : (n : ℕ) → n < 256 ^ w → T (fits w signed (value_of w signed n))
  unfolding fits value_of
  value-fits n h = rw (-ℤ-+ℤ_cancel (pos n) (offset w signed)) (lt→ltb n (256 ^ w) h)

  below : (z : ℤ) → T (non_neg z && lt_z z (pos (256 ^ w))) → (nat_abs z < 256 ^ w) × (pos (nat_abs z) ≡ z)
  below (pos n) h = (ltb→lt n (256 ^ w) h, refl)
  below (negsuc n) h = absurd h

  pub stored-below : (v : ℤ) → T (fits w signed v) → stored_of w signed v < 256 ^ w
  unfolding fits stored_of
  stored-below v h = (below (v +ℤ offset w signed) h).0

  pub value-stored : (v : ℤ) → T (fits w signed v) → value_of w signed (stored_of w signed v) ≡ v
  unfolding fits stored_of value_of
  value-stored v h = ap (λ z. z -ℤ offset w signed) (below (v +ℤ offset w signed) h).1 ∙ +ℤ-neg_ℤ_cancel v (offset w signed)

  -- what is stored for a number is how far it is above the least
  pub stored-above : (v : ℤ) → v -ℤ value_of w signed 0 ≡ v +ℤ offset w signed
  unfolding value_of
  stored-above v = ap (λ z. v -ℤ z) (+ℤ_idl (neg_ℤ (offset w signed))) ∙ ap (λ z. v +ℤ z) (neg_ℤ-neg_ℤ (offset w signed))

  -- and a number stands for as much above the least as is stored
  pub value-above : (n : ℕ) → value_of w signed 0 +ℤ pos n ≡ value_of w signed n
  unfolding value_of
  value-above n = ap (λ z. z +ℤ pos n) (+ℤ_idl (neg_ℤ (offset w signed))) ∙ +ℤ_comm (neg_ℤ (offset w signed)) (pos n)

-- ---- The ranges

-- what is added to two numbers leaves their order as it is
one_more : (a b : ℤ) → le_z (suc_ℤ a) (suc_ℤ b) ≡ le_z a b
one_more (pos a) (pos b) = leb-suc-suc a b
one_more (pos a) (negsuc zero) = leb-suc-zero a
one_more (pos a) (negsuc (suc b)) = refl
one_more (negsuc zero) (pos b) = leb-zero (suc b)
one_more (negsuc zero) (negsuc zero) = refl
one_more (negsuc zero) (negsuc (suc b)) = sym (leb-suc-zero b)
one_more (negsuc (suc a)) (pos b) = refl
one_more (negsuc (suc a)) (negsuc zero) = sym (leb-zero (suc a))
one_more (negsuc (suc a)) (negsuc (suc b)) = sym (leb-suc-suc b a)

more : (a b : ℤ) (k : ℕ) → le_z (a +ℤ pos k) (b +ℤ pos k) ≡ le_z a b
more a b zero = ap₂ le_z (+ℤ_idr a) (+ℤ_idr b)
more a b (suc k) = ap₂ le_z (+ℤ-suc_ℤ a (pos k)) (+ℤ-suc_ℤ b (pos k)) ∙ one_more (a +ℤ pos k) (b +ℤ pos k) ∙ more a b k

-- from 0 to below a limit is from 0 to the number before it
up_to : (m : ℕ) (v : ℤ) → (non_neg v && lt_z v (pos (suc m))) ≡ (le_z (pos 0) v && le_z v (pos m))
up_to m (pos n) = rw (leb-zero n) (leb-suc-suc n m)
up_to m (negsuc n) = refl

-- and so it is with k added
shifted : (k m : ℕ) (v : ℤ) → (non_neg (v +ℤ pos k) && lt_z (v +ℤ pos k) (pos (suc m))) ≡ (le_z (pos 0 -ℤ pos k) v && le_z v (pos m -ℤ pos k))
shifted k m v =
    up_to m (v +ℤ pos k)
    ∙ ap₂
    ◌&&◌
    (ap (λ z. le_z z (v +ℤ pos k)) (sym (-ℤ-+ℤ_cancel (pos 0) (pos k))) ∙ more (pos 0 -ℤ pos k) v k)
    (ap (le_z (v +ℤ pos k)) (sym (-ℤ-+ℤ_cancel (pos m) (pos k))) ∙ more v (pos m -ℤ pos k) k)

-- a number can be stored where it is between what the least and the largest stored number stand for
pub between : (w : ℕ) (signed : Bool) (v : ℤ) → fits w signed v ≡ (le_z (value_of w signed 0) v && le_z v (value_of w signed (256 ^ w - 1)))
unfolding fits value_of offset
between w signed v = go signed
  where
    limit : 256 ^ w ≡ suc (256 ^ w - 1)
    limit = omega (arith, one-le-pow w 256 (omega arith))

    go : (t : Bool) → fits w t v ≡ (le_z (value_of w t 0) v && le_z v (value_of w t (256 ^ w - 1)))
    go true = ap (λ n. non_neg (v +ℤ pos (256 ^ w / 2)) && lt_z (v +ℤ pos (256 ^ w / 2)) (pos n)) limit ∙ shifted (256 ^ w / 2) (256 ^ w - 1) v
    go false = ap (λ n. non_neg (v +ℤ pos 0) && lt_z (v +ℤ pos 0) (pos n)) limit ∙ shifted 0 (256 ^ w - 1) v

-- as the standard gives them
pub record Ranges (v : ℤ) : Type 0 where
  pub signed : fits 2 true v ≡ (le_z (negsuc 32767) v && le_z v (pos 32767))
  pub unsigned : fits 2 false v ≡ (le_z (pos 0) v && le_z v (pos 65535))
  pub short-signed : fits 1 true v ≡ (le_z (negsuc 127) v && le_z v (pos 127))
  pub short-unsigned : fits 1 false v ≡ (le_z (pos 0) v && le_z v (pos 255))

pub ranges : (v : ℤ) → Ranges v
unfolding value_of offset
ranges v = record { signed = between 2 true v; unsigned = between 2 false v; short-signed = between 1 true v; short-unsigned = between 1 false v }
