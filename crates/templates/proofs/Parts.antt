-- What the parts of a template answer, as code goes through them: a number of few bytes, a field by where it ends, and the fields one behind the other.
use Rattle.std.specs.Prelude.{Ok, Err, Some, None}
use mathlib.Core.Path.{◌≡◌, refl, sym, ap, ◌∙◌}
use mathlib.Core.Bool.{Bool, true, false, cond}
use mathlib.Core.List.{List, [], ◌∷◌}
use Prim.Native.Nat.{ℕ, zero, suc, ◌+◌, ◌-◌, ◌≤◌, ◌<◌}
use native.Mathlib.Numerals.{add-one}
use native.Mathlib.Omega.{arith}
use lib.Dec.{eqb, leb, ltb}
use lib.ListN.{length, take, drop, get_or, length-drop, drop_of_length-le}
use lib.Seq.{drop-cons, drop-drop, length-take-le}
use borrow.Author.Tests.{leb-true, leb-false, ltb-true, ltb-false, le-leb, lt-leb, eq-eqb, ne_eqb}
use Rattle.formats.specs.Bytes.{Bytes, impossible}
use Rattle.formats.specs.Reader.{ok, short, bad, run, read_at}
use Rattle.formats.proofs.Lawful.{refused as refused-byte}
use Rattle.formats.specs.Compose.{at-start}
use Rattle.formats.specs.Number.{value}
use Rattle.formats.specs.Told.{failed}
use Rattle.formats.specs.declared.Failure.{Failure}
use Rattle.channels.specs.declared.Format.TheVariants.{Compact}
use Rattle.channels.specs.declared.Description.{Description}
use Rattle.descriptions.specs.Description.{description}
use Rattle.descriptions.specs.Read.{nothing, described, described-done, described-failed}
use Rattle.descriptions.specs.declared.Described.{Described}
use Rattle.templates.specs.declared.Judged.{Judged}
use Rattle.refusals.specs.declared.Refusal.{Refusal}
use Rattle.refusals.specs.declared.Refusal.TheVariants.{Short, Tag, Length, Maximum, LeftOver}
use Rattle.templates.specs.Reading.{saying, accepted, refused, require, with_content, is_shortest, at_end, limited_by, limited_from, limit_of, filled, fault_of, filling, described_by, content_of, length_and_content, template_of, end_of}

-- a number that one more byte may follow, of three
pub room-for-more : (s : List ℕ) → Bytes s → (i : ℕ) → i < 3 → value i s < 65536
unfolding value
room-for-more s g zero h = omega arith
room-for-more s g (suc zero) h = let x = g 0 in omega arith
room-for-more s g (suc (suc zero)) h = let x = g 0 in let y = g 1 in omega arith
room-for-more s g (suc (suc (suc i))) h = absurd (omega arith)

-- ---- A field

module _ (s : List ℕ) (at : ℕ) where
  -- its length byte is there, and as much as that says
  record Ends (e : ℕ) : Type 0 where
    there : at < length s
    size : get_or s at 0 ≤ length s - (at + 1)
    end : at + 1 + get_or s at 0 ≡ e

  ends : {e : ℕ} → end_of s at ≡ Some e → Ends e
  unfolding end_of
  ends {e} q = go (leb (length s) at) (ltb (length s - (at + 1)) (get_or s at 0)) refl refl q
    where
      go : (a b : Bool) → leb (length s) at ≡ a → ltb (length s - (at + 1)) (get_or s at 0) ≡ b → cond a None (cond b None (Some (at + 1 + get_or s at 0))) ≡ Some e → Ends e
      go true b h g q = impossible (cc)
      go false true h g q = impossible (cc)
      go false false h g q = record { there = leb-false (length s) at h; size = ltb-false (length s - (at + 1)) (get_or s at 0) g; end = cc }

  pub end-within : {e : ℕ} → end_of s at ≡ Some e → (at + 1 ≤ e) × (e ≤ length s)
  end-within q = let f = ends q in (omega (arith, f.there, f.size, f.end), omega (arith, f.there, f.size, f.end))

  module _ (rest : List ℕ → List ℕ → Judged) where
    pub content-there : {e : ℕ} → end_of s at ≡ Some e → with_content (drop at s) rest ≡ rest (take (e - (at + 1)) (drop (at + 1) s)) (drop e s)
    unfolding with_content
    content-there {e} q =
        let f = ends q in
        let n : e - (at + 1) ≡ get_or s at 0 = omega (arith, f.end) in
        let h : get_or s at 0 ≤ length (drop (suc at) s) = simp length-drop (omega (arith, f.size)) in
        rw (n, ← f.end, add-one at, ← drop-drop (get_or s at 0) (suc at) s, drop-cons s at 0 f.there, le-leb (get_or s at 0) (length (drop (suc at) s)) h)

    pub content-missing : end_of s at ≡ None → with_content (drop at s) rest ≡ refused Length
    unfolding end_of with_content
    content-missing q = go (leb (length s) at) (ltb (length s - (at + 1)) (get_or s at 0)) refl refl q
      where
        go : (a b : Bool) → leb (length s) at ≡ a → ltb (length s - (at + 1)) (get_or s at 0) ≡ b → cond a None (cond b None (Some (at + 1 + get_or s at 0))) ≡ None
            → with_content (drop at s) rest ≡ refused Length
        go true b h g q = rw (drop_of_length-le s {i = at} (leb-true (length s) at h))
        go false true h g q =
            rw (drop-cons s at 0 (leb-false (length s) at h), lt-leb (get_or s at 0) (length (drop (suc at) s)) (simp length-drop (omega (arith, ltb-true (length s - (at + 1)) (get_or s at 0) g))))
        go false false h g q = impossible (cc)

-- ---- The number of points

module _ (described : Bool) (d : Description) where
  module _ (content : List ℕ) where
    pub limited-long : (behind : List ℕ) → is_shortest content ≡ false → limited_by described d content behind ≡ refused Maximum
    unfolding limited_by
    limited-long behind e = rw e

    module _ (s : List ℕ) (end : ℕ) (e : is_shortest content ≡ true) where
      pub limited-more : end < length s → limited_by described d content (drop end s) ≡ refused Tag
      unfolding limited_by at_end
      limited-more h = rw (e, drop-cons s end 0 h)

      pub limited-last : length s ≤ end → limited_by described d content (drop end s) ≡ accepted (saying described d true (value (length content) content))
      unfolding limited_by at_end
      limited-last h = rw (e, drop_of_length-le s {i = end} h)

  module _ (s : List ℕ) (at : ℕ) where
    pub limited-none : length s ≤ at → limited_from described d (drop at s) ≡ accepted (saying described d false 0)
    unfolding limited_from
    limited-none h = rw (drop_of_length-le s {i = at} h)

    pub limited-other : at < length s → (get_or s at 0 ≡ 0x82 → ⊥) → limited_from described d (drop at s) ≡ refused Tag
    unfolding limited_from
    limited-other h e = rw (drop-cons s at 0 h, ne_eqb (get_or s at 0) 0x82 e)

    pub limited-field : at < length s → get_or s at 0 ≡ 0x82 → limited_from described d (drop at s) ≡ with_content (drop (at + 1) s) (limited_by described d)
    unfolding limited_from
    limited-field h e = rw (drop-cons s at 0 h, eq-eqb (get_or s at 0) 0x82 e, add-one at)

-- ---- What stands behind the channels, by itself

-- an answer that says of channels just what it is told
abbrev Free : (Bool → Description → Judged) → Type 0
Free f = (described : Bool) (d : Description) → filled described d (limit_of (f false (nothing Compact))) ≡ f described d

free-require : (t : Bool) (refusal : Refusal) (f : Bool → Description → Judged) → Free f → Free (λ b d. require t refusal (f b d))
free-require true refusal f h = h
free-require false refusal f h = λ described d. refl

free-end : (behind : List ℕ) (f : Bool → Description → Judged) → Free f → Free (λ b d. at_end behind (f b d))
unfolding at_end
free-end [] f h = h
free-end (tag ∷ b) f h = λ described d. refl

free-by : (content behind : List ℕ) → Free (λ b d. limited_by b d content behind)
unfolding limited_by
free-by content behind =
    free-require (is_shortest content) Maximum _
    (free-end behind (λ b d. accepted (saying b d true (value (length content) content))) (λ described d. refl))

free-content : (s : List ℕ) → Free (λ b d. with_content s (limited_by b d))
unfolding with_content
free-content [] = λ described d. refl
free-content (n ∷ b) = free-require (leb n (length b)) Length _ (free-by (take n b) (drop n b))

pub free-from : (s : List ℕ) → Free (λ b d. limited_from b d s)
unfolding limited_from
free-from [] = λ described d. refl
free-from (tag ∷ b) = free-require (eqb tag 0x82) Tag _ (free-content b)

-- ---- The description

-- what the code that reads one was told, taken back to the answer
module _ (content : List ℕ) where
  whole : described (read_at (description Compact) content 0) ≡ described (run (description Compact) content)
  whole = ap described (at-start (description Compact) content)

  pub description-done : {d : Described} → described (read_at (description Compact) content 0) ≡ Ok d → run (description Compact) content ≡ ok d.description d.end
  description-done e = (described-done (run (description Compact) content) (sym whole ∙ e)).0

  pub description-failed : {f : Failure} → described (read_at (description Compact) content 0) ≡ Err f → run (description Compact) content ≡ failed f
  description-failed e = described-failed (run (description Compact) content) (sym whole ∙ e)

-- from place 4 of a slice on
module _ (s : List ℕ) (end : ℕ) (low : 4 ≤ end) (high : end ≤ length s) where
  abbrev part : List ℕ
  part = take (end - 4) (drop 4 s)

  size : length part ≡ end - 4
  size = length-take-le (end - 4) (drop 4 s) (simp length-drop (omega arith))

  pub described-whole : {d : Description} {n : ℕ} → run (description Compact) part ≡ ok d n → n ≡ end - 4 → described_by part (drop end s) ≡ limited_from true d (drop end s)
  unfolding described_by filling
  described-whole {d} {n} e q = rw (e, size, eq-eqb n (end - 4) q)

  pub described-part : {d : Description} {n : ℕ} → run (description Compact) part ≡ ok d n → (n ≡ end - 4 → ⊥) → described_by part (drop end s) ≡ refused Length
  unfolding described_by filling
  described-part {d} {n} e q = rw (e, size, ne_eqb n (end - 4) q)

  pub described-short : run (description Compact) part ≡ short → described_by part (drop end s) ≡ refused Length
  unfolding described_by filling
  described-short e = rw e

  pub described-bad : {k p : ℕ} → run (description Compact) part ≡ bad k p → (described_by part (drop end s) ≡ refused (fault_of k (4 + p))) × (4 + p < length s)
  unfolding described_by filling
  described-bad e = (rw e, omega (arith, (refused-byte (description Compact) part e).within, size))

-- ---- The content, and the whole

module _ (s : List ℕ) where
  pub content-none : length s ≤ 2 → content_of (drop 2 s) ≡ limited_from false (nothing Compact) (drop 2 s)
  unfolding content_of
  content-none h = rw (drop_of_length-le s {i = 2} h)

  pub content-other : 2 < length s → (get_or s 2 0 ≡ 0x81 → ⊥) → content_of (drop 2 s) ≡ limited_from false (nothing Compact) (drop 2 s)
  unfolding content_of
  content-other h e = rw (drop-cons s 2 0 h, ne_eqb (get_or s 2 0) 0x81 e)

  pub content-field : 2 < length s → get_or s 2 0 ≡ 0x81 → content_of (drop 2 s) ≡ with_content (drop 3 s) described_by
  unfolding content_of
  content-field h e = rw (drop-cons s 2 0 h, eq-eqb (get_or s 2 0) 0x81 e)

pub template-none : (s : List ℕ) → length s ≡ 0 → template_of s ≡ refused Short
unfolding template_of
template-none [] h = refl
template-none (x ∷ s) h = absurd (omega arith)

pub template-other : (s : List ℕ) → 0 < length s → (get_or s 0 0 ≡ 0xB1 → ⊥) → template_of s ≡ refused Tag
unfolding template_of
template-other [] h e = absurd (omega arith)
template-other (x ∷ s) h e = rw (ne_eqb x 0xB1 e)

pub template-tag : (s : List ℕ) → length s ≡ 1 → get_or s 0 0 ≡ 0xB1 → template_of s ≡ refused Short
unfolding template_of length_and_content
template-tag [] h e = absurd (omega arith)
template-tag (x ∷ []) h e = rw (eq-eqb x 0xB1 e)
template-tag (x ∷ y ∷ s) h e = absurd (omega arith)

-- with its tag and its length byte
pub template-field : (s : List ℕ) → 1 < length s → get_or s 0 0 ≡ 0xB1 → template_of s
    ≡ require (ltb (get_or s 1 0) 128) Length
    (require (leb (get_or s 1 0) (length s - 2)) Short
    (require (leb (length s - 2) (get_or s 1 0)) (LeftOver (2 + get_or s 1 0))
    (content_of (drop 2 s))))
unfolding template_of length_and_content
template-field [] h e = absurd (omega arith)
template-field (x ∷ []) h e = absurd (omega arith)
template-field (x ∷ n ∷ c) h e = let q : suc (suc (length c)) - 2 ≡ length c = omega arith in rw (eq-eqb x 0xB1 e, q)
