-- Where a descriptor ends and whether it is stored, whatever its numbers are: by its byte alone.
use Rattle.std.specs.Prelude.{Ok}
use mathlib.Core.Path.{◌≡◌, refl, sym, ap, ◌∙◌}
use mathlib.Core.Bool.{Bool, true, false, not, cond}
use mathlib.Core.Logic.{by_cases}
use mathlib.Core.List.{List}
use Prim.Native.Nat.{ℕ, ◌+◌, ◌*◌, ◌/◌, ◌%◌, ◌≤◌, ◌<◌}
use native.Mathlib.Nat.{add_assoc, mod-lt}
use native.Mathlib.Decide.{dec_lt}
use native.Mathlib.Omega.{arith}
use lib.Dec.{eqb}
use lib.ListN.{length, get_or}
use Rattle.formats.specs.Bytes.{impossible}
use borrow.Author.Tests.{eqb-true, eqb-false}
use Rattle.formats.specs.Binary.{bit}
use Rattle.formats.specs.Reader.{Reader, done, ok, short, mapped, read_at, bind, one}
use Rattle.formats.specs.Compose.{at_done, at-pass, at-bind-ok}
use Rattle.formats.specs.Number.{number, at-number}
use Rattle.formats.proofs.NumberLaws.{at-number-short}
use Rattle.formats.specs.Told.{told, told-mapped, told-done, told-failed, at-bind-failed}
use Rattle.formats.specs.Jump.{Jumps, ends_there, ends-short, jumps-done, jumps-bind}
use Rattle.channels.specs.Channel.{signed_of}
use Rattle.channels.specs.Stored.{value_of}
use Rattle.channels.specs.declared.Attribute.{Attribute}
use Rattle.channels.specs.declared.Descriptor.{Descriptor}
use Rattle.formats.specs.declared.Failure.TheVariants.{Short}
use Rattle.channels.specs.Descriptors.{is_stored}
use Rattle.descriptions.specs.Description.{announced, reserved, attribute, descriptor}
use Rattle.descriptions.specs.Read.{attributes_size, descriptor_size}
use Rattle.descriptions.proofs.Parts.{descriptor-out, descriptor-refused}

-- ---- Free bytes, and an image that does not depend on them

-- r reads n bytes, whatever they are, and the image of what it reads is v
record Passes {A B : Type 0} (g : A → B) (r : Reader A) (n : ℕ) (v : B) : Type 0 where
  there : (s : List ℕ) (at : ℕ) → at + n ≤ length s → mapped g (read_at r s at) ≡ ok v (at + n)
  cut : (s : List ℕ) (at : ℕ) → at ≤ length s → length s < at + n → mapped g (read_at r s at) ≡ short

passes-done : {A B : Type 0} (g : A → B) (x : A) → Passes g (done x) 0 (g x)
unfolding mapped
passes-done g x = record {
  there = λ s at h. ap (mapped g) (at_done x s at) ∙ ap (ok (g x)) {x = at} {y = at + 0} (omega arith);
  cut = λ s at h q. absurd (omega arith);
}

module _ {A B C : Type 0} (g : B → C) (r : Reader A) (k : A → Reader B) (n m : ℕ) (v : C) (f : Jumps r n) (p : (u : A) → Passes g (k u) m v) where
  first : (s : List ℕ) (at : ℕ) → at + n ≤ length s → (u : A) × (read_at r s at ≡ ok u (at + n))
  first s at h = told-done (read_at r s at) (sym (f s at (omega arith) ∙ ends_there s at n h))

  passes-bind : Passes g (bind r k) (n + m) v
  unfolding mapped
  passes-bind = record {
    there = λ s at h.
        let x = first s at (omega arith) in
        ap (mapped g) (at-bind-ok r k s at x.1) ∙ (p x.0).there s (at + n) (omega arith) ∙ ap (ok v) {x = at + n + m} {y = at + (n + m)} (omega arith);
    cut = λ s at h q.
        by_cases
        (dec_lt (length s) (at + n))
        (λ e. ap (mapped g) (at-bind-failed r k s at Short (told-failed (read_at r s at) (sym (f s at h ∙ ends-short s at n e)))))
        (λ e.
        let x = first s at (omega arith) in
        ap (mapped g) (at-bind-ok r k s at x.1) ∙ (p x.0).cut s (at + n) (omega arith) (omega arith));
  }

-- ---- A descriptor

number-jumps : (w : ℕ) → Jumps (number w) w
unfolding told
number-jumps w s at h =
    by_cases
    (dec_lt (length s) (at + w))
    (λ q. ap told (at-number-short w s at (omega arith)) ∙ sym (ends-short s at w q))
    (λ q. ap told (at-number w s at (omega arith)) ∙ sym (ends_there s at w (omega arith)))

attribute-jumps : (w : ℕ) (signed flag : Bool) → Jumps (attribute w signed flag) (cond flag w 0)
unfolding attribute
attribute-jumps w signed true = let e : w + 0 ≡ w = omega arith in rw e at (jumps-bind {B = Attribute} (number w) (λ n. done (record { given = true; number = value_of w signed n })) w 0 (number-jumps w) (λ n. jumps-done _))
attribute-jumps w signed false = jumps-done _

-- what is measured of a descriptor: whether the channel is included, and whether it is stored
abbrev pub flags : Descriptor → Bool × Bool
flags d = (d.included, is_stored d)

-- what its byte announces
module _ (w channel b : ℕ) where
  announced-passes : Passes flags (announced w channel b) (attributes_size w b) (true, not (bit 3 b))
  unfolding attributes_size
  announced-passes =
      passes-bind flags _ _ _ _ _ (attribute-jumps 2 false (bit 8 b)) (λ scaling.
      passes-bind flags _ _ _ _ _ (attribute-jumps w (signed_of channel) (bit 7 b)) (λ minimum.
      passes-bind flags _ _ _ _ _ (attribute-jumps w (signed_of channel) (bit 6 b)) (λ maximum.
      passes-bind flags _ _ _ _ _ (attribute-jumps w (signed_of channel) (bit 5 b)) (λ mean.
      passes-bind flags _ _ _ _ _ (attribute-jumps w false (bit 4 b)) (λ deviation. passes-done flags _)))))

module _ (w channel : ℕ) (s : List ℕ) (at : ℕ) (h : at < length s) (q : reserved.holds (get_or s at 0) ≡ true) where
  past-byte : read_at (descriptor w channel) s at ≡ read_at (announced w channel (get_or s at 0)) s (at + 1)
  unfolding descriptor one bind
  past-byte = at-pass reserved _ s at h q

  pub descriptor-over : at + descriptor_size w (get_or s at 0) ≤ length s
      → mapped flags (read_at (descriptor w channel) s at) ≡ ok (true, not (bit 3 (get_or s at 0))) (at + descriptor_size w (get_or s at 0))
  unfolding descriptor_size
  descriptor-over e =
      ap (mapped flags) past-byte ∙ (announced-passes w channel (get_or s at 0)).there s (at + 1) (omega arith) ∙ ap (ok (true, not (bit 3 (get_or s at 0)))) (add_assoc at 1 (attributes_size w (get_or s at 0)))

  pub descriptor-cut : length s < at + descriptor_size w (get_or s at 0) → mapped flags (read_at (descriptor w channel) s at) ≡ short
  unfolding descriptor_size
  descriptor-cut e = ap (mapped flags) past-byte ∙ (announced-passes w channel (get_or s at 0)).cut s (at + 1) (omega arith) (omega arith)

-- a descriptor whose end is told is there: its byte is admitted, and so are all the bytes that it announces
module _ (w channel : ℕ) (s : List ℕ) (at : ℕ) where
  pub record Whole (n : ℕ) : Type 0 where
    pub admitted : reserved.holds (get_or s at 0) ≡ true
    pub there : at + descriptor_size w (get_or s at 0) ≤ length s
    pub end : n ≡ at + descriptor_size w (get_or s at 0)

  byte-there : {n : ℕ} → Ok n ≡ told (read_at (descriptor w channel) s at) → at < length s
  unfolding told
  byte-there e = by_cases (dec_lt at (length s)) (λ h. h) (λ h. let z = e ∙ ap told (descriptor-out w channel s at (omega arith)) in impossible (cc))

  byte-admitted : {n : ℕ} → Ok n ≡ told (read_at (descriptor w channel) s at) → (t : Bool) → reserved.holds (get_or s at 0) ≡ t → reserved.holds (get_or s at 0) ≡ true
  unfolding told
  byte-admitted e true q = q
  byte-admitted e false q = let z = e ∙ ap told (descriptor-refused w channel s at (byte-there e) q) in impossible (cc)

  pub descriptor-whole : {n : ℕ} → Ok n ≡ told (read_at (descriptor w channel) s at) → Whole n
  unfolding told
  descriptor-whole {n} e =
      let h = byte-there e in
      let q = byte-admitted e (reserved.holds (get_or s at 0)) refl in
      let f : Ok n ≡ told (mapped flags (read_at (descriptor w channel) s at)) = e ∙ sym (told-mapped flags (read_at (descriptor w channel) s at)) in
      by_cases
      (dec_lt (length s) (at + descriptor_size w (get_or s at 0)))
      (λ g. let z = f ∙ ap told (descriptor-cut w channel s at h q g) in impossible (cc))
      (λ g.
      let i : at + descriptor_size w (get_or s at 0) ≤ length s = omega arith in
      let z = f ∙ ap told (descriptor-over w channel s at h q i) in
      record { admitted = q; there = i; end = cc })

  -- a descriptor that was read is of an included channel, and is stored as its byte has it
  pub descriptor-flags : {d : Descriptor} {n : ℕ} → read_at (descriptor w channel) s at ≡ ok d n → (d.included ≡ true) × (is_stored d ≡ not (bit 3 (get_or s at 0)))
  unfolding told mapped
  descriptor-flags {d} {n} e =
      let x = descriptor-whole (sym (ap told e)) in
      let z = sym (ap (mapped flags) e) ∙ descriptor-over w channel s at (byte-there (sym (ap told e))) x.admitted x.there in
      let y : flags d ≡ (true, not (bit 3 (get_or s at 0))) = cc in
      (ap (λ p. p.0) y, ap (λ p. p.1) y)

-- ---- Its size, counted from the bits

flag-bytes : (x w : ℕ) → cond (eqb (x % 2) 1) w 0 ≡ x % 2 * w
flag-bytes x w = go (eqb (x % 2) 1) refl
  where
    go : (t : Bool) → eqb (x % 2) 1 ≡ t → cond t w 0 ≡ x % 2 * w
    go true e = let z : x % 2 ≡ 1 = eqb-true _ _ e in rw z (omega arith)
    go false e = let z : x % 2 ≡ 0 = omega (arith, eqb-false (x % 2) 1 e, mod-lt x {m = 2} (omega arith)) in rw z (omega arith)

bit_below : (x : ℕ) → x % 2 < 2
bit_below x = mod-lt x {m = 2} (omega arith)

sum-full : (p a c d e : ℕ) → p < 2 → a < 2 → c < 2 → d < 2 → e < 2
    → (1 + p * 2 + (a + c + d + e) * 2 ≡ 1 + (p * 2 + (a * 2 + (c * 2 + (d * 2 + (e * 2 + 0)))))) × (1 + p * 2 + (a + c + d + e) * 2 < 12)
sum-full p a c d e h i j k l = (omega arith, omega arith)

sum-compact : (p a c d e : ℕ) → p < 2 → a < 2 → c < 2 → d < 2 → e < 2
    → (1 + p * 2 + (a + c + d + e) ≡ 1 + (p * 2 + (a * 1 + (c * 1 + (d * 1 + (e * 1 + 0)))))) × (1 + p * 2 + (a + c + d + e) < 12)
sum-compact p a c d e h i j k l = (omega arith, omega arith)

module _ (b : ℕ) where
  pub size-full : (1 + b / 128 % 2 * 2 + (b / 64 % 2 + b / 32 % 2 + b / 16 % 2 + b / 8 % 2) * 2 ≡ descriptor_size 2 b)
      × (1 + b / 128 % 2 * 2 + (b / 64 % 2 + b / 32 % 2 + b / 16 % 2 + b / 8 % 2) * 2 < 12)
  unfolding descriptor_size attributes_size
  size-full =
      rw (flag-bytes (b / 128) 2, flag-bytes (b / 64) 2, flag-bytes (b / 32) 2, flag-bytes (b / 16) 2, flag-bytes (b / 8) 2)
      (sum-full _ _ _ _ _ (bit_below (b / 128)) (bit_below (b / 64)) (bit_below (b / 32)) (bit_below (b / 16)) (bit_below (b / 8)))

  pub size-compact : (1 + b / 128 % 2 * 2 + (b / 64 % 2 + b / 32 % 2 + b / 16 % 2 + b / 8 % 2) ≡ descriptor_size 1 b)
      × (1 + b / 128 % 2 * 2 + (b / 64 % 2 + b / 32 % 2 + b / 16 % 2 + b / 8 % 2) < 12)
  unfolding descriptor_size attributes_size
  size-compact =
      rw (flag-bytes (b / 128) 2, flag-bytes (b / 64) 1, flag-bytes (b / 32) 1, flag-bytes (b / 16) 1, flag-bytes (b / 8) 1)
      (sum-compact _ _ _ _ _ (bit_below (b / 128)) (bit_below (b / 64)) (bit_below (b / 32)) (bit_below (b / 16)) (bit_below (b / 8)))
