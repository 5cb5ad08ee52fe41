-- What the parts of a description answer, as code goes through them: a number by its bytes, attribute after attribute,
-- a descriptor by its byte, and the description by its inclusion bytes.
use mathlib.Core.Path.{◌≡◌, refl, ap, ◌∙◌}
use mathlib.Core.Bool.{Bool, true, false}
use mathlib.Core.Logic.{by_cases}
use mathlib.Core.List.{List}
use Prim.Native.Nat.{ℕ, ◌+◌, ◌*◌, ◌/◌, ◌%◌, ◌≤◌, ◌<◌}
use native.Mathlib.Decide.{dec_lt}
use native.Mathlib.Omega.{arith}
use lib.IntN.{ℤ}
use lib.ListN.{length, get_or}
use borrow.Author.Tests.{eq-eqb, ne_eqb}
use Rattle.formats.specs.Reader.{ok, short, bad, read_at, bind, map, one, any}
use Rattle.formats.specs.Compose.{at_done, at-short, at-pass, at-fail, at-bind-ok}
use Rattle.formats.specs.Number.{number}
use Rattle.formats.specs.Binary.{bit}
use Rattle.channels.specs.Channel.{signed_of}
use Rattle.channels.specs.Stored.{value_of}
use Rattle.channels.specs.declared.Descriptor.{Descriptor}
use Rattle.channels.specs.Descriptors.{no_attribute}
use Rattle.channels.specs.declared.Format.{Format}
use Rattle.descriptions.specs.Description.{has_xy, reserved, attribute, descriptor, description}
use Rattle.descriptions.specs.Read.{channels_from}
use Rattle.descriptions.specs.declared.AttributeRead.{AttributeRead}

-- ---- An attribute

module _ (w : ℕ) (signed flag : Bool) (s : List ℕ) (at : ℕ) where
  pub attribute-given : flag ≡ true → {n m next : ℕ} {v : ℤ} → v ≡ value_of w signed n → read_at (number w) s at ≡ ok n m → m ≡ next
      → read_at (attribute w signed flag) s at ≡ ok (record { given = true; number = v }) next
  unfolding attribute
  attribute-given e g f z = rw (e, g, ← z) (at-bind-ok (number w) _ s at f ∙ at_done _ s _)

  pub attribute-none : flag ≡ false → read_at (attribute w signed flag) s at ≡ ok no_attribute at
  unfolding attribute
  attribute-none e = rw e (at_done no_attribute s at)

-- ---- A descriptor

-- by its byte and the attributes that were read behind it
abbrev pub made : (b : ℕ) (scaling minimum maximum mean deviation : AttributeRead) → Descriptor
made b scaling minimum maximum mean deviation = record {
  included = true;
  scaling = scaling.attribute;
  minimum = minimum.attribute;
  maximum = maximum.attribute;
  mean = mean.attribute;
  deviation = deviation.attribute;
  constant = bit 3 b;
  detrended = bit 2 b;
}

low-set : (b : ℕ) → b % 2 ≡ 1 → reserved.holds b ≡ false
low-set b h = rw (eq-eqb (b / 1 % 2) 1 (omega arith))

pub low_clear : (b : ℕ) → (b % 2 ≡ 1 → ⊥) → reserved.holds b ≡ true
low_clear b h = rw (ne_eqb (b / 1 % 2) 1 (λ e. h (omega arith)))

module _ (w channel : ℕ) (s : List ℕ) (at : ℕ) where
  pub descriptor-out : length s ≤ at → read_at (descriptor w channel) s at ≡ short
  unfolding descriptor one bind
  descriptor-out h = at-short reserved _ s at h

  pub descriptor-refused : at < length s → reserved.holds (get_or s at 0) ≡ false → read_at (descriptor w channel) s at ≡ bad 5 at
  unfolding descriptor one bind
  descriptor-refused h q = at-fail reserved _ s at h q

  pub descriptor-bad : at < length s → get_or s at 0 % 2 ≡ 1 → read_at (descriptor w channel) s at ≡ bad 5 at
  descriptor-bad h q = descriptor-refused h (low-set (get_or s at 0) q)

  -- the attributes behind the descriptor's byte, one after another
  module _ (signed : Bool) (sign : signed ≡ signed_of channel) (scaling minimum maximum mean deviation : AttributeRead) where
    abbrev Reads : AttributeRead → (w : ℕ) → (signed : Bool) → (k : ℕ) → (from : ℕ) → Type 0
    Reads t w signed k from = read_at (attribute w signed (bit k (get_or s at 0))) s from ≡ ok t.attribute t.next

    pub attributes-read : at < length s → reserved.holds (get_or s at 0) ≡ true
        → Reads scaling 2 false 8 (at + 1)
        → Reads minimum w signed 7 scaling.next
        → Reads maximum w signed 6 minimum.next
        → Reads mean w signed 5 maximum.next
        → Reads deviation w false 4 mean.next
        → {end : ℕ} → deviation.next ≡ end
        → read_at (descriptor w channel) s at ≡ ok (made (get_or s at 0) scaling minimum maximum mean deviation) end
    unfolding descriptor one bind
    attributes-read h q e f g i j z =
        at-pass reserved _ s at h q
        ∙ at-bind-ok _ _ s (at + 1) e
        ∙ at-bind-ok _ _ s scaling.next (rw sign at f)
        ∙ at-bind-ok _ _ s minimum.next (rw sign at g)
        ∙ at-bind-ok _ _ s maximum.next (rw sign at i)
        ∙ at-bind-ok _ _ s mean.next j
        ∙ at_done (made (get_or s at 0) scaling minimum maximum mean deviation) s deviation.next
        ∙ ap (ok (made (get_or s at 0) scaling minimum maximum mean deviation)) z

-- ---- The inclusion bytes

has-xy : (b : ℕ) → 0xC0 ≤ b → b < 256 → has_xy.holds b ≡ true
has-xy b h g = rw (eq-eqb (b / 128 % 2) 1 (omega arith), eq-eqb (b / 64 % 2) 1 (omega arith))

lacks-xy : (b : ℕ) → b < 0xC0 → has_xy.holds b ≡ false
lacks-xy b h =
    by_cases
    (dec_lt b 128)
    (λ q. rw (ne_eqb (b / 128 % 2) 1 (λ e. omega arith)))
    (λ q. rw (eq-eqb (b / 128 % 2) 1 (omega arith), ne_eqb (b / 64 % 2) 1 (λ e. omega arith)))

module _ (format : Format) (s : List ℕ) (start : ℕ) where
  pub description-out : length s ≤ start → read_at (description format) s start ≡ short
  unfolding description one bind
  description-out h = at-short has_xy _ s start h

  pub description-bad : start < length s → get_or s start 0 < 0xC0 → read_at (description format) s start ≡ bad 4 start
  unfolding description one bind
  description-bad h q = at-fail has_xy _ s start h (lacks-xy (get_or s start 0) q)

  module _ (h : start < length s) (low : 0xC0 ≤ get_or s start 0) (high : get_or s start 0 < 256) where
    pub description-cut : length s ≤ start + 1 → read_at (description format) s start ≡ short
    unfolding description one bind
    description-cut q = at-pass has_xy _ s start h (has-xy (get_or s start 0) low high) ∙ at-short any _ s (start + 1) q

    pub description-channels : start + 1 < length s
        → read_at (description format) s start ≡ read_at (channels_from format (get_or s start 0 * 256 + get_or s (start + 1) 0)) s (start + 2)
    unfolding description one bind channels_from map
    description-channels q =
        at-pass has_xy _ s start h (has-xy (get_or s start 0) low high)
        ∙ at-pass any _ s (start + 1) q refl
        ∙ ap (read_at (channels_from format (get_or s start 0 * 256 + get_or s (start + 1) 0)) s) {x = start + 1 + 1} {y = start + 2} (omega arith)
