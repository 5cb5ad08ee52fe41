-- What a refusal says: a description's keeps the number that reading a description gives, and each comes with zeros.
use Rattle.std.specs.Prelude.{◌≡◌, refl, Bool, true, false, cond, List, [], ◌∷◌, ℕ, ◌+◌, eqb, leb, ltb, length, take, drop, Err}
use Rattle.std.proofs.Common.{ap}
use Rattle.formats.specs.Bytes.{Bytes, impossible}
use Rattle.formats.specs.Reader.{Answer, ok, short, bad, run}
use Rattle.channels.specs.declared.Description.{Description}
use Rattle.channels.specs.declared.Format.TheVariants.{Compact}
use Rattle.descriptions.specs.Description.{description}
use Rattle.descriptions.specs.Read.{nothing}
use Rattle.descriptions.specs.Rules.{Breaks, x_or_y, descriptor_bit}
use Rattle.descriptions.specs.FaultLaws.{faults-description}
use Rattle.refusals.specs.Table.{number_of}
use Rattle.templates.specs.declared.Template.{Template}
use Rattle.refusals.specs.declared.Refusal.{Refusal}
use Rattle.refusals.specs.declared.Refusal.TheVariants.{Short, Tag, Length, Maximum, LeftOver}
use Rattle.templates.specs.declared.Judged.{Judged}
use Rattle.templates.specs.Reading.{saying, accepted, refused, require, with_content, is_shortest, at_end, limited_by, limited_from, fault_of, filling, described_by, content_of, length_and_content, template_of}

by-rule : {front before : List ℕ} {b k : ℕ} (place : ℕ) → Breaks 1 front before b k → number_of (fault_of k place) ≡ k
by-rule place (x_or_y x) = refl
by-rule place (descriptor_bit x) = refl

pub number-kept : (b : List ℕ) {k p : ℕ} (place : ℕ) → Bytes b → run (description Compact) b ≡ bad k p → number_of (fault_of k place) ≡ k
number-kept b place g e = by-rule place ((faults-description Compact).breaks b g e)

-- ---- Zeros

record Zeros (j : Judged) : Type 0 where
  zeros : {refusal : Refusal} → j.verdict ≡ Err refusal → j ≡ refused refusal

zeros-accepted : (t : Template) → Zeros (accepted t)
zeros-accepted t = record { zeros = λ e. impossible (cc) }

zeros-refused : (refusal : Refusal) → Zeros (refused refusal)
zeros-refused refusal = record { zeros = λ e. ap (λ v. record { verdict = v; template = saying false (nothing Compact) false 0 }) e }

zeros-require : (test : Bool) (refusal : Refusal) {rest : Judged} → Zeros rest → Zeros (require test refusal rest)
zeros-require true refusal z = z
zeros-require false refusal z = zeros-refused refusal

zeros-content : (b : List ℕ) {rest : List ℕ → List ℕ → Judged} → ((content behind : List ℕ) → Zeros (rest content behind)) → Zeros (with_content b rest)
unfolding with_content
zeros-content [] z = zeros-refused Length
zeros-content (n ∷ b) z = zeros-require (leb n (length b)) Length (z (take n b) (drop n b))

zeros-end : (b : List ℕ) {rest : Judged} → Zeros rest → Zeros (at_end b rest)
unfolding at_end
zeros-end [] z = z
zeros-end (tag ∷ b) z = zeros-refused Tag

zeros-limited : (described : Bool) (d : Description) (b : List ℕ) → Zeros (limited_from described d b)
unfolding limited_from limited_by
zeros-limited described d [] = zeros-accepted _
zeros-limited described d (tag ∷ b) =
    zeros-require (eqb tag 0x82) Tag (zeros-content b (λ content behind. zeros-require (is_shortest content) Maximum (zeros-end behind (zeros-accepted _))))

zeros-filling : (size : ℕ) (a : Answer Description) (behind : List ℕ) → Zeros (filling size a behind)
unfolding filling
zeros-filling size (ok d n) behind = zeros-require (eqb n size) Length (zeros-limited true d behind)
zeros-filling size short behind = zeros-refused Length
zeros-filling size (bad number place) behind = zeros-refused (fault_of number (4 + place))

zeros-described : (b : List ℕ) → Zeros (content_of b)
unfolding content_of described_by
zeros-described [] = zeros-limited false (nothing Compact) []
zeros-described (tag ∷ b) = go (eqb tag 0x81)
  where
    go : (t : Bool) → Zeros (cond t (with_content b described_by) (limited_from false (nothing Compact) (tag ∷ b)))
    go true = zeros-content b (λ content behind. zeros-filling (length content) (run (description Compact) content) behind)
    go false = zeros-limited false (nothing Compact) (tag ∷ b)

-- where there is no template, nothing is said of one
pub refused-zeros : (b : List ℕ) {refusal : Refusal} → (template_of b).verdict ≡ Err refusal → template_of b ≡ refused refusal
unfolding length_and_content template_of
refused-zeros b e = (whole b).zeros e
  where
    inside : (b : List ℕ) → Zeros (length_and_content b)
    inside [] = zeros-refused Short
    inside (n ∷ content) =
        zeros-require (ltb n 128) Length
        (zeros-require (leb n (length content)) Short
        (zeros-require (leb (length content) n) (LeftOver (2 + n))
        (zeros-described content)))

    whole : (b : List ℕ) → Zeros (template_of b)
    whole [] = zeros-refused Short
    whole (tag ∷ b) = zeros-require (eqb tag 0xB1) Tag (inside b)
