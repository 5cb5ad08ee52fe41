-- A number by its bits.
use Rattle.std.specs.Prelude.{◌≡◌, refl, Bool, true, false, cond, List, [], ◌∷◌, ℕ, zero, suc, ◌+◌, ◌-◌, ◌*◌, ◌/◌, ◌%◌, ◌^◌, ◌<◌, eqb, length, get_or}
use Rattle.std.proofs.Common.{sym, ap, ◌∙◌, pow-suc, mod-lt, mod-eq_of_lt, arith, eqb-true}
use Rattle.std.proofs.lemmas.Nat.{mod-pow-add}
use Rattle.std.proofs.lemmas.Bool.{eqb-false}

-- bit k of a number, the lowest is bit 1, as the standard counts them
abbrev pub bit : ℕ → ℕ → Bool
bit k v = eqb (v / 2 ^ (k - 1) % 2) 1

-- the number with these bits, the highest first
unfoldable pub binary : List Bool → ℕ
binary [] = 0
binary (b ∷ bs) = cond b (2 ^ length bs) 0 + binary bs

-- ---- Back and forth

-- the bits of a number from bit n down
unfoldable pub bits : ℕ → ℕ → List Bool
bits zero v = []
bits (suc n) v = bit (suc n) v ∷ bits n v

pub length-bits : (n v : ℕ) → length (bits n v) ≡ n
unfolding bits
length-bits zero v = refl
length-bits (suc n) v = ap suc (length-bits n v)

-- each stands at its place
pub nth-bit : (n v k : ℕ) → k < n → get_or (bits n v) k false ≡ bit (n - k) v
unfolding bits
nth-bit zero v k h = absurd (omega arith)
nth-bit (suc n) v zero h = ap (λ m. bit m v) (let e : suc n ≡ suc n - 0 = omega arith in e)
nth-bit (suc n) v (suc k) h = nth-bit n v k (omega arith) ∙ ap (λ m. bit m v) (let e : n - k ≡ suc n - suc k = omega arith in e)

pub binary-below : (bs : List Bool) → binary bs < 2 ^ length bs
unfolding binary
binary-below [] = omega arith
binary-below (true ∷ bs) = rw (pow-suc 2 (length bs)) (omega (arith, binary-below bs))
binary-below (false ∷ bs) = rw (pow-suc 2 (length bs)) (omega (arith, binary-below bs))

top : (n v : ℕ) → cond (bit (suc n) v) (2 ^ n) 0 ≡ v / 2 ^ n % 2 * 2 ^ n
top n v = let e : suc n - 1 ≡ n = omega arith in rw e (go (eqb (v / 2 ^ n % 2) 1) refl)
  where
    go : (t : Bool) → eqb (v / 2 ^ n % 2) 1 ≡ t → cond t (2 ^ n) 0 ≡ v / 2 ^ n % 2 * 2 ^ n
    go true e = let h : v / 2 ^ n % 2 ≡ 1 = eqb-true _ _ e in rw h (omega arith)
    go false e = let h : v / 2 ^ n % 2 ≡ 0 = omega (arith, eqb-false (v / 2 ^ n % 2) 1 e, mod-lt (v / 2 ^ n) {m = 2} (omega arith)) in rw h (omega arith)

binary-mod : (n v : ℕ) → binary (bits n v) ≡ v % 2 ^ n
unfolding bits binary
binary-mod zero v = omega arith
binary-mod (suc n) v =
    let e : 1 + n ≡ suc n = omega arith in
    rw (length-bits n v, top n v, binary-mod n v) (rw e at (sym (mod-pow-add v 1 n)))

pub binary-bits : (n v : ℕ) → v < 2 ^ n → binary (bits n v) ≡ v
binary-bits n v h = binary-mod n v ∙ mod-eq_of_lt h

-- lists of one length with one number are equal
same_bits : (cs bs : List Bool) → length cs ≡ length bs → binary cs ≡ binary bs → cs ≡ bs
unfolding binary
same_bits [] [] h e = refl
same_bits [] (b ∷ bs) h e = absurd (omega arith)
same_bits (a ∷ cs) [] h e = absurd (omega arith)
same_bits (true ∷ cs) (true ∷ bs) h e = let q : length cs ≡ length bs = omega arith in ap (λ l. true ∷ l) (same_bits cs bs q (omega (arith, rw q at e)))
same_bits (false ∷ cs) (false ∷ bs) h e = let q : length cs ≡ length bs = omega arith in ap (λ l. false ∷ l) (same_bits cs bs q (omega (arith, e)))
same_bits (true ∷ cs) (false ∷ bs) h e = let q : length cs ≡ length bs = omega arith in absurd (omega (arith, rw q at e, binary-below bs))
same_bits (false ∷ cs) (true ∷ bs) h e = let q : length cs ≡ length bs = omega arith in absurd (omega (arith, rw q at (binary-below cs), e))

pub bits-binary : (bs : List Bool) → bits (length bs) (binary bs) ≡ bs
bits-binary bs = same_bits _ bs (length-bits (length bs) (binary bs)) (binary-bits (length bs) (binary bs) (binary-below bs))
