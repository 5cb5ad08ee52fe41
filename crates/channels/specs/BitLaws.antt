-- Laws of sixteen bits that say something of each channel: a loop over channels moves them up, and looks at the highest; and those of the signs say the signs.
use Rattle.std.specs.Prelude.{◌≡◌, false, ℕ, zero, suc, ◌+◌, ◌-◌, ◌*◌, ◌/◌, ◌%◌, ◌^◌, ◌≤◌, ◌<◌, eqb, get_or}
use Rattle.std.proofs.Common.{sym, ap, ◌∙◌, arith, pow-add, shr-shr}
use Rattle.std.proofs.Math.Nat.{mod-mod}
use Rattle.std.proofs.Math.Pow.{field}
use Rattle.std.proofs.lemmas.Nat.{shl-shr}
use Rattle.formats.specs.Binary.{bit, binary, binary-below, bits-binary, nth-bit}
use Rattle.channels.specs.Bits.{moved}
use Rattle.channels.specs.Channel.{signs, signed_of}

-- ---- Bits that are moved up

next : (k bits : ℕ) → moved 1 (moved k bits) ≡ moved (k + 1) bits
unfolding moved
next k bits = rw (pow-add 2 k 1) (omega arith)

-- those before channel k are gone, so that its own is the highest
first : (k bits : ℕ) → k < 16 → bit 16 (moved k bits) ≡ bit (16 - k) bits
unfolding moved
first k bits h =
    let e : k + (16 - k - 1) ≡ 15 = omega arith in
    let f : bits * 2 ^ k / 2 ^ 15 ≡ bits / 2 ^ (16 - k - 1) =
    ap (λ n. bits * 2 ^ k / 2 ^ n) (sym e) ∙ sym (shr-shr (bits * 2 ^ k) k (16 - k - 1)) ∙ ap (λ n. n / 2 ^ (16 - k - 1)) (shl-shr bits k) in
    ap (λ n. eqb (n % 2) 1) (field (bits * 2 ^ k) 1 15) ∙ ap (λ n. eqb n 1) (mod-mod (bits * 2 ^ k / 2 ^ 15) 2) ∙ ap (λ n. eqb (n % 2) 1) f

-- where none is left, none comes
none : (k bits j : ℕ) → moved k bits ≡ 0 → moved (k + j) bits ≡ 0
unfolding moved
none k bits zero e = ap (λ n. moved n bits) (let q : k + 0 ≡ k = omega arith in q) ∙ e
none k bits (suc j) e = ap (λ n. moved n bits) (let q : k + suc j ≡ k + j + 1 = omega arith in q) ∙ sym (next (k + j) bits) ∙ ap (moved 1) (none k bits j e)

-- what a loop over channels has left of the bits when it comes to a channel
pub record Moved (bits left channel : ℕ) : Type 0 where
  pub same : left ≡ moved channel bits

pub moved_none : (bits : ℕ) → bits < 65536 → Moved bits bits 0
unfolding moved
moved_none bits h = record { same = omega arith }

module _ {bits left channel : ℕ} (m : Moved bits left channel) where
  pub moved_on : {now : ℕ} → now ≡ moved 1 left → Moved bits now (channel + 1)
  moved_on e = record { same = e ∙ ap (moved 1) m.same ∙ next channel bits }

  pub moved-first : channel < 16 → bit 16 left ≡ bit (16 - channel) bits
  moved-first h = ap (bit 16) m.same ∙ first channel bits h

  pub moved_out : left ≡ 0 → (later : ℕ) → channel ≤ later → later < 16 → bit (16 - later) bits ≡ false
  moved_out z later h q =
      let e : channel + (later - channel) ≡ later = omega arith in
      sym (first later bits q) ∙ ap (bit 16) (ap (λ n. moved n bits) (sym e) ∙ none channel bits (later - channel) (sym m.same ∙ z))

-- ---- The bits of the signs

-- the number's bits are the sixteen signs
sign_bit : (channel : ℕ) → channel < 16 → bit (16 - channel) (binary signs) ≡ signed_of channel
unfolding signed_of
sign_bit channel h = sym (nth-bit 16 (binary signs) channel h) ∙ ap (λ l. get_or l channel false) (bits-binary signs)

-- what a loop over channels has left of them
abbrev pub SignsLeft : (left channel : ℕ) → Type 0
SignsLeft = Moved (binary signs)

pub signs-none : {number : ℕ} → number ≡ binary signs → SignsLeft number 0
signs-none e = rw e (moved_none (binary signs) (binary-below signs))

pub sign-first : {left channel : ℕ} → SignsLeft left channel → channel < 16 → bit 16 left ≡ signed_of channel
sign-first {channel} m h = moved-first m h ∙ sign_bit channel h
