-- What is read as a template is the encoding of a valid one, and the other way round. So no bytes have two readings.
use Rattle.std.specs.Prelude.{◌≡◌, ◌↔◌, Bool, not, cond, ◌&&◌, ◌||◌, ℕ, zero, suc, ◌+◌, ◌/◌, ◌%◌, ◌^◌, ◌≤◌, ◌<◌, eqb, leb, ltb, take, drop, Ok}
use Rattle.std.proofs.Math.Path.{refl, ap, ap₂}
use Rattle.std.proofs.Common.{sym, ◌∙◌, arith, length-append, take-append-drop, length-take-le, lt-ltb, le-ltb, le-leb, eq-eqb, ne_eqb, leb-true, eqb-true}
use Rattle.std.proofs.Math.Logic.{by_cases}
use Rattle.std.proofs.Math.Bool.{true, false}
use mathlib.Core.List.{List, [], ◌∷◌, ◌++◌, append-nil}
use Rattle.std.proofs.Math.Decide.{dec_lt}
use Rattle.std.proofs.Math.ListN.{length}
use Rattle.std.proofs.Math.Seq.{take-append_seam, drop-append_seam}
use Rattle.formats.specs.Bytes.{Bytes, bytes_take, bytes_drop, impossible}
use Rattle.formats.specs.Reader.{Answer, ok, short, bad, run}
use Rattle.formats.specs.Number.{number, digits, value, length_digits, number_ok}
use Rattle.formats.proofs.NumberLaws.{writes-number}
use Rattle.channels.specs.declared.Description.{Description}
use Rattle.channels.specs.declared.Format.TheVariants.{Compact}
use Rattle.descriptions.specs.Description.{description, encode_description}
use Rattle.descriptions.proofs.EncodedLaws.{writes-description}
use Rattle.descriptions.specs.SizeLaws.{description-size}
use Rattle.descriptions.specs.Read.{nothing}
use Rattle.templates.specs.declared.Template.{Template}
use Rattle.refusals.specs.declared.Refusal.{Refusal}
use Rattle.refusals.specs.declared.Refusal.TheVariants.{Short, Tag, Length, Maximum, LeftOver}
use Rattle.templates.specs.declared.Judged.{Judged}
use Rattle.templates.specs.Template.{field, fewest, shortest, encode_described, encode_limited, encode, Describes, Limits, ValidTemplate, IsTemplate}
use Rattle.templates.specs.Reading.{saying, accepted, refused, require, with_content, is_shortest, at_end, limited_by, limited_from, filling, described_by, content_of, length_and_content, template_of}

-- ---- The number of points

-- a number of as many bytes as it is written in, and the bytes of the number that they make
value-digits : (n v : ℕ) → v < 256 ^ n → value n (digits n v) ≡ v
value-digits n v h =
    let e : run (number n) (digits n v) ≡ ok v (length (digits n v)) = (writes-number n).reads v h in
    let g : run (number n) (digits n v) ≡ ok (value n (digits n v)) n = number_ok n (digits n v) (omega (arith, length_digits n v)) in
    cc

digits_value : (b : List ℕ) → Bytes b → digits (length b) (value (length b) b) ≡ b
digits_value b g = sym ((writes-number (length b)).only b g (number_ok (length b) b (omega arith))).1

-- how many they are
pub one_byte : (n : ℕ) → n < 256 → fewest n ≡ 1
unfolding fewest
one_byte n h = rw (lt-ltb n 256 h)

pub two_bytes : (n : ℕ) → 256 ≤ n → n < 65536 → fewest n ≡ 2
unfolding fewest
two_bytes n h q = rw (le-ltb n 256 h, lt-ltb n 65536 q)

pub three-bytes : (n : ℕ) → 65536 ≤ n → fewest n ≡ 3
unfolding fewest
three-bytes n h = rw (le-ltb n 256 (omega arith), le-ltb n 65536 h)

record Shortest (n : ℕ) (b : List ℕ) : Type 0 where
  few : is_shortest b ≡ true
  same : value (length b) b ≡ n
  small : length b ≤ 3

module _ (n : ℕ) where
  in-digits : (k : ℕ) → fewest n ≡ k → n < 256 ^ k → k ≤ 3 → is_shortest (digits k n) ≡ true → Shortest n (shortest n)
  unfolding shortest
  in-digits k q h s e = rw q (record { few = e; same = rw (length_digits k n) (value-digits k n h); small = rw (length_digits k n) s })

  shortest-is : n < 16777216 → Shortest n (shortest n)
  unfolding is_shortest digits
  shortest-is h =
      by_cases
      (dec_lt n 256)
      (λ q. in-digits 1 (one_byte n q) (omega arith) (omega arith) refl)
      (λ q.
      by_cases
      (dec_lt n 65536)
      (λ r. in-digits 2 (two_bytes n (omega arith) r) (omega arith) (omega arith) (rw (ne_eqb (n / 256 % 256) 0 (λ e. omega arith))))
      (λ r. in-digits 3 (three-bytes n (omega arith)) (omega arith) (omega arith) (rw (ne_eqb (n / 256 / 256 % 256) 0 (λ e. omega arith)))))

-- and every string of so few bytes is one
module _ (b : List ℕ) (g : Bytes b) where
  of-digits : fewest (value (length b) b) ≡ length b → b ≡ shortest (value (length b) b)
  unfolding shortest
  of-digits q = rw q (sym (digits_value b g))

not-zero : (x : ℕ) → (false || not (eqb x 0)) ≡ true → 0 < x
not-zero zero e = impossible (cc)
not-zero (suc x) e = omega arith

second : (p q r : Bool) → (p && q && r) ≡ true → q ≡ true
second true true r e = refl
second true false r e = impossible (cc)
second false q r e = impossible (cc)

pub at-most-three : (b : List ℕ) → is_shortest b ≡ true → length b ≤ 3
unfolding is_shortest
at-most-three b e = leb-true (length b) 3 (second (leb 1 (length b)) (leb (length b) 3) _ e)

shortest-only : (b : List ℕ) → Bytes b → is_shortest b ≡ true → (value (length b) b < 16777216) × (b ≡ shortest (value (length b) b))
unfolding is_shortest value
shortest-only [] g e = impossible (cc)
shortest-only (x ∷ []) g e = let h = g 0 in (omega arith, of-digits (x ∷ []) g (one_byte _ (omega arith)))
shortest-only (x ∷ y ∷ []) g e =
    let h = g 0 in
    let i = g 1 in
    let p = not-zero x e in
    (omega arith, of-digits (x ∷ y ∷ []) g (two_bytes _ (omega arith) (omega arith)))
shortest-only (x ∷ y ∷ z ∷ []) g e =
    let h = g 0 in
    let i = g 1 in
    let j = g 2 in
    let p = not-zero x e in
    (omega arith, of-digits (x ∷ y ∷ z ∷ []) g (three-bytes _ (omega arith)))
shortest-only (x ∷ y ∷ z ∷ w ∷ b) g e = absurd (omega (arith, at-most-three (x ∷ y ∷ z ∷ w ∷ b) e))

-- ---- Reading what was written

content-there : (b behind : List ℕ) (rest : List ℕ → List ℕ → Judged) → with_content (length b ∷ b ++ behind) rest ≡ rest b behind
unfolding with_content
content-there b behind rest = rw (le-leb (length b) (length (b ++ behind)) (omega (arith, length-append b behind)), take-append_seam b behind, drop-append_seam b behind)

module _ (described : Bool) (d : Description) where
  read-limited : (limited : Bool) (n : ℕ) → Limits limited n → limited_from described d (encode_limited limited n) ≡ accepted (saying described d limited n)
  unfolding limited_from limited_by encode_limited at_end
  read-limited true n h =
      let s = shortest-is n h in
      rw append-nil at (content-there (shortest n) [] (limited_by described d)) ∙ rw (s.few, s.same)
  read-limited false n h = rw h

read-described : (described : Bool) (d : Description) (limited : Bool) (n : ℕ) → Describes described d → Limits limited n
    → content_of (encode_described described d ++ encode_limited limited n) ≡ accepted (saying described d limited n)
unfolding content_of encode_described encode_limited described_by filling
read-described true d limited n h q =
    content-there (encode_description 1 d) (encode_limited limited n) described_by
    ∙ rw ((writes-description Compact).reads d h, eq-eqb (length (encode_description 1 d)) (length (encode_description 1 d)) refl) (read-limited true d limited n q)
read-described false d true n h q = rw h (read-limited false (nothing Compact) true n q)
read-described false d false n h q = rw h (read-limited false (nothing Compact) false n q)

-- the content is below 128 bytes
limited-size : (limited : Bool) (n : ℕ) → Limits limited n → length (encode_limited limited n) ≤ 5
unfolding encode_limited
limited-size true n h = omega (arith, (shortest-is n h).small)
limited-size false n h = omega arith

pub described-size : (described : Bool) (d : Description) → length (encode_described described d) ≤ 116
unfolding encode_described
described-size true d = omega (arith, description-size 1 d)
described-size false d = omega arith

-- a content that is short enough is all that is looked at
outer : (c : List ℕ) → length c < 128 → template_of (field 0xB1 c) ≡ content_of c
unfolding template_of length_and_content
outer c h = rw (lt-ltb (length c) 128 h, le-leb (length c) (length c) (omega arith))

-- what was written is read
pub read-written : (t : Template) → ValidTemplate t → template_of (encode t) ≡ accepted t
unfolding encode
read-written t v =
    let a = encode_described t.described t.description in
    let b = encode_limited t.limited t.maximum in
    outer (a ++ b) (omega (arith, length-append a b, described-size t.described t.description, limited-size t.limited t.maximum v.maximum))
    ∙ read-described t.described t.description t.limited t.maximum v.description v.maximum

-- ---- Writing what was read

refused-not : {X : Type 0} {refusal : Refusal} {t : Template} → refused refusal ≡ accepted t → X
refused-not e = let g = ap (λ j. j.verdict) e in impossible (cc)

require-holds : (test : Bool) (refusal : Refusal) {rest : Judged} {t : Template} → require test refusal rest ≡ accepted t → (test ≡ true) × (rest ≡ accepted t)
require-holds true refusal e = (refl, e)
require-holds false refusal e = refused-not e

record Held (b : List ℕ) (rest : List ℕ → List ℕ → Judged) (t : Template) : Type 0 where
  content : List ℕ
  behind : List ℕ
  bytes : Bytes b → Bytes content × Bytes behind
  split : b ≡ length content ∷ content ++ behind
  read : rest content behind ≡ accepted t

held : (b : List ℕ) (rest : List ℕ → List ℕ → Judged) {t : Template} → with_content b rest ≡ accepted t → Held b rest t
unfolding with_content
held [] rest e = refused-not e
held (n ∷ b) rest e =
    let r = require-holds (leb n (length b)) Length e in
    let h : n ≤ length b = leb-true n (length b) r.0 in record {
      content = take n b;
      behind = drop n b;
      bytes = λ g. (bytes_take n b (λ i. g (suc i)), bytes_drop n b (λ i. g (suc i)));
      split = ap₂ ◌∷◌ (sym (length-take-le n b h)) (sym (take-append-drop n b));
      read = r.1;
    }

-- what stands in a template, as far as it was read: what was said of channels is said of them
record Rest (described : Bool) (d : Description) (b : List ℕ) (t : Template) : Type 0 where
  channels : saying described d t.limited t.maximum ≡ t
  maximum : Limits t.limited t.maximum
  written : b ≡ encode_limited t.limited t.maximum

module _ (described : Bool) (d : Description) where
  end-only : (behind : List ℕ) {u t : Template} → at_end behind (accepted u) ≡ accepted t → (behind ≡ []) × (u ≡ t)
  unfolding at_end
  end-only [] e = (refl, ap (λ j. j.template) e)
  end-only (x ∷ b) e = refused-not e

  limited-only : (b : List ℕ) {t : Template} → Bytes b → limited_from described d b ≡ accepted t → Rest described d b t
  unfolding limited_from limited_by encode_limited
  limited-only [] g e = let q = ap (λ j. j.template) e in rw (← q) (record { channels = refl; maximum = refl; written = refl })
  limited-only (x ∷ b) g e =
      let r = require-holds (eqb x 0x82) Tag e in
      let l = held b (limited_by described d) r.1 in
      let s = require-holds (is_shortest l.content) Maximum l.read in
      let f = end-only l.behind s.1 in
      let o = shortest-only l.content (l.bytes (λ i. g (suc i))).0 s.0 in
      rw (← f.1) (record {
        channels = refl;
        maximum = o.0;
        written = ap₂ ◌∷◌ (eqb-true x 0x82 r.0) (l.split ∙ rw (f.0, append-nil l.content) (ap (λ c. length c ∷ c) o.1));
      })

-- the content, and the whole
record Content (b : List ℕ) (t : Template) : Type 0 where
  valid : ValidTemplate t
  written : b ≡ encode_described t.described t.description ++ encode_limited t.limited t.maximum

undescribed : (b : List ℕ) {t : Template} → Rest false (nothing Compact) b t → Content b t
unfolding encode_described
undescribed b {t} r = rw (← r.channels) (record { valid = record { description = refl; maximum = r.maximum }; written = r.written })

content-only : (b : List ℕ) {t : Template} → Bytes b → content_of b ≡ accepted t → Content b t
unfolding content_of described_by filling encode_described
content-only [] g e = undescribed [] (limited-only false (nothing Compact) [] g e)
content-only (x ∷ b) {t} g e = go (eqb x 0x81) refl e
  where
    filled : (content behind : List ℕ) (a : Answer Description) → run (description Compact) content ≡ a → Bytes content → Bytes behind → filling (length content) a behind ≡ accepted t
        → Content (0x81 ∷ length content ∷ content ++ behind) t
    filled content behind (ok d n) q f h e =
        let r = require-holds (eqb n (length content)) Length e in
        let o = (writes-description Compact).only content f (q ∙ ap (ok d) (eqb-true n (length content) r.0)) in
        let l = limited-only true d behind h r.1 in
        rw (← l.channels) (record {
          valid = record { description = o.0; maximum = l.maximum };
          written = ap₂ (λ c b. 0x81 ∷ length c ∷ c ++ b) o.1 l.written;
        })
    filled content behind short q f h e = refused-not e
    filled content behind (bad k p) q f h e = refused-not e

    go : (s : Bool) → eqb x 0x81 ≡ s → cond s (with_content b described_by) (limited_from false (nothing Compact) (x ∷ b)) ≡ accepted t → Content (x ∷ b) t
    go true q e = let l = held b described_by e in rw (eqb-true x 0x81 q, l.split) (filled l.content l.behind (run (description Compact) l.content) refl (l.bytes (λ i. g (suc i))).0 (l.bytes (λ i. g (suc i))).1 l.read)
    go false q e = undescribed (x ∷ b) (limited-only false (nothing Compact) (x ∷ b) g e)

-- what was read is what writing its template writes
pub written_read : (b : List ℕ) {t : Template} → Bytes b → template_of b ≡ accepted t → ValidTemplate t × (b ≡ encode t)
unfolding template_of length_and_content encode
written_read [] g e = refused-not e
written_read (x ∷ []) g e = refused-not (require-holds (eqb x 0xB1) Tag e).1
written_read (x ∷ n ∷ c) g e =
    let r = require-holds (eqb x 0xB1) Tag e in
    let l = require-holds (ltb n 128) Length r.1 in
    let s = require-holds (leb n (length c)) Short l.1 in
    let o = require-holds (leb (length c) n) (LeftOver (2 + n)) s.1 in
    let k = content-only c (λ i. g (suc (suc i))) o.1 in
    let q : n ≡ length c = omega (arith, leb-true n (length c) s.0, leb-true (length c) n o.0) in
    (k.valid, ap₂ ◌∷◌ (eqb-true x 0xB1 r.0) (rw q (ap (λ d. length d ∷ d) k.written)))

-- ---- What follows

-- bytes are accepted if and only if they are a template
pub accepted-iff : (b : List ℕ) → Bytes b → ((template_of b).verdict ≡ Ok tt) ↔ IsTemplate b
accepted-iff b g = (to, λ t. ap (λ j. j.verdict) (ap template_of t.written ∙ read-written t.template t.valid))
  where
    to : (template_of b).verdict ≡ Ok tt → IsTemplate b
    to e =
        let q : template_of b ≡ accepted (template_of b).template = ap (λ v. record { verdict = v; template = (template_of b).template }) e in
        let w = written_read b g q in
        record { template = (template_of b).template; valid = w.0; written = w.1 }

-- no bytes have two readings
pub one-reading : {b : List ℕ} (t u : IsTemplate b) → t.template ≡ u.template
one-reading {b} t u =
    ap (λ j. j.template)
    (sym (read-written t.template t.valid) ∙ ap template_of (sym t.written ∙ u.written) ∙ read-written u.template u.valid)
