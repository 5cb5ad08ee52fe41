-- What the reader of the reserved byte, the opening byte and the count answers, by the tests of the code.
use mathlib.Core.Path.{◌≡◌, refl, ap₂, ◌∙◌}
use mathlib.Core.Bool.{true, false, ◌||◌}
use mathlib.Core.List.{List}
use Prim.Native.Nat.{ℕ, ◌+◌, ◌-◌, ◌*◌, ◌/◌, ◌%◌, ◌≤◌, ◌<◌}
use native.Mathlib.Omega.{arith}
use lib.Dec.{eqb}
use lib.ListN.{length, get_or}
use borrow.Author.Tests.{eq-eqb, ne_eqb}
use Rattle.formats.specs.Binary.{bit}
use Rattle.formats.specs.Reader.{done, ok, short, bad, read_at, bind, one, literal}
use Rattle.formats.specs.Compose.{at_done, at-short, at-pass, at-fail, at-bind-ok}
use Rattle.formats.specs.Told.{at-bind-failed}
use Rattle.formats.specs.declared.Failure.TheVariants.{Short}
use Rattle.formats.specs.Number.{number, at-number, value-three}
use Rattle.formats.proofs.NumberLaws.{at-number-short}
use Rattle.records.specs.Record.{opening}
use Rattle.record_fronts.specs.Front.{Opening, opened}

-- the low seven bits of a byte
module _ (b : ℕ) (h : b < 256) where
  pub opening-bad : (b % 128 ≡ 0 → ⊥) → opening.holds b ≡ false
  opening-bad e = ap₂ (λ s t. s || t) (ne_eqb b 0x00 (λ q. e (omega arith))) (ne_eqb b 0x80 (λ q. e (omega arith)))

  pub opening-good : b % 128 ≡ 0 → opening.holds b ≡ true
  opening-good e = go (b / 128) refl
    where
      go : (n : ℕ) → b / 128 ≡ n → opening.holds b ≡ true
      go Prim.Native.Nat.zero q = let z : b ≡ 0 = omega arith in rw z
      go (Prim.Native.Nat.suc n) q = let z : b ≡ 128 = omega arith in rw z

  pub announces : b % 128 ≡ 0 → eqb b 128 ≡ bit 8 b
  announces e = go (b / 128) refl
    where
      go : (n : ℕ) → b / 128 ≡ n → eqb b 128 ≡ bit 8 b
      go Prim.Native.Nat.zero q = let z : b ≡ 0 = omega arith in rw z
      go (Prim.Native.Nat.suc n) q = let z : b ≡ 128 = omega arith in rw z

module _ (s : List ℕ) (at : ℕ) where
  abbrev made : ℕ → ℕ → Opening
  made b count = record { announced = bit 8 b; count = count }

  pub reserved-short : length s ≤ at → read_at opened s at ≡ short
  unfolding opened literal bind
  reserved-short h = at-short _ _ s at h

  pub reserved-bad : at < length s → (get_or s at 0 ≡ 0 → ⊥) → read_at opened s at ≡ bad 6 at
  unfolding opened literal bind
  reserved-bad h e = at-fail _ _ s at h (ne_eqb (get_or s at 0) 0 e)

  module _ (h : at < length s) (e : get_or s at 0 ≡ 0) where
    then-opening : read_at opened s at ≡ read_at (bind (one opening) (λ b. bind (number 3) (λ count. done (made b count)))) s (at + 1)
    unfolding opened literal one bind
    then-opening = at-pass _ _ s at h (eq-eqb (get_or s at 0) 0 e)

    pub opening-short : length s ≤ at + 1 → read_at opened s at ≡ short
    unfolding one bind
    opening-short q = then-opening ∙ at-short _ _ s (at + 1) q

    pub opening-refused : at + 1 < length s → opening.holds (get_or s (at + 1) 0) ≡ false → read_at opened s at ≡ bad 7 (at + 1)
    unfolding one bind
    opening-refused q g = then-opening ∙ at-fail _ _ s (at + 1) q g

    module _ (q : at + 1 < length s) (g : opening.holds (get_or s (at + 1) 0) ≡ true) where
      then-count : read_at opened s at ≡ read_at (bind (number 3) (λ count. done (made (get_or s (at + 1) 0) count))) s (at + 2)
      unfolding one bind
      then-count =
          let z : at + 1 + 1 ≡ at + 2 = omega arith in
          then-opening ∙ rw z at (at-pass opening (λ b. bind (number 3) (λ count. done (made b count))) s (at + 1) q g)

      pub count-short : length s - at < 5 → read_at opened s at ≡ short
      count-short r = then-count ∙ at-bind-failed (number 3) _ s (at + 2) Short (at-number-short 3 s (at + 2) (omega arith))

      pub count-ok : at + 5 ≤ length s
          → read_at opened s at ≡ ok (made (get_or s (at + 1) 0) ((get_or s (at + 2) 0 * 256 + get_or s (at + 3) 0) * 256 + get_or s (at + 4) 0)) (at + 5)
      count-ok r =
          let a : at + 2 + 1 ≡ at + 3 = omega arith in
          let b : at + 2 + 2 ≡ at + 4 = omega arith in
          let c : at + 2 + 3 ≡ at + 5 = omega arith in
          then-count
          ∙ at-bind-ok (number 3) _ s (at + 2) (at-number 3 s (at + 2) (omega arith))
          ∙ at_done _ s (at + 2 + 3)
          ∙ rw (c, value-three s (at + 2), a, b)
