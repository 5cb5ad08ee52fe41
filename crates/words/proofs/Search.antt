-- Looking for a place: what `position` answers of the rest of a text is said of the text.
use Rattle.std.proofs.Common.{◌≡◌, refl, ◌∙◌, ℕ, ◌+◌, ◌-◌, ◌≤◌, ◌<◌, List, length, get_or, take, drop, arith, length-drop, take_all}
use Rattle.std.proofs.lemmas.List.{get_or-drop}
use Rattle.std.specs.List.{AllWithin, HoldsAt}
use Rattle.words.specs.Places.{First}

-- what stands from a place on
abbrev Rest : List ℕ → ℕ → List ℕ → Type 0
Rest text from rest = rest ≡ take (length text - from) (drop from text)

whole : (text rest : List ℕ) (from : ℕ) → Rest text from rest → rest ≡ drop from text
whole text rest from e = e ∙ take_all (length text - from) (drop from text) (simp length-drop (omega arith))

held : (text rest : List ℕ) (from k : ℕ) → Rest text from rest → get_or rest k 0 ≡ get_or text (from + k) 0
held text rest from k e = rw (whole text rest from e, get_or-drop from text k 0) refl

long : (text rest : List ℕ) (from : ℕ) → Rest text from rest → length rest ≡ length text - from
long text rest from e = rw (whole text rest from e, length-drop from text) refl

passing : (text rest : List ℕ) (from i : ℕ) (Passed : ℕ → Type 0) → Rest text from rest → AllWithin Passed rest 0 i → (k : ℕ) → k < from + i → from ≤ k → Passed (get_or text k 0)
passing text rest from i Passed e all k below above =
    let same : from + (k - from) ≡ k = omega arith in
    rw same at (rw (held text rest from (k - from) e) at (all (k - from) 0 (omega arith) (omega arith)))

pub found : (text rest : List ℕ) (from i : ℕ) (Passed Found : ℕ → Type 0) → Rest text from rest → (i < length rest) × HoldsAt Found rest i × AllWithin Passed rest 0 i → First text from Passed Found (from + i)
found text rest from i Passed Found e m =
    record {
      onward = omega arith;
      inside = λ h. omega (arith, long text rest from e, m.0);
      passed = passing text rest from i Passed e m.2;
      found = λ h. rw (held text rest from i e) at (m.1 0);
    }

pub ended : (text rest : List ℕ) (from end : ℕ) (Passed Found : ℕ → Type 0) → Rest text from rest → AllWithin Passed rest 0 (length rest) → from ≤ end → length text ≤ end → (from < end → end ≤ length text) → First text from Passed Found end
ended text rest from end Passed Found e m onward far near =
    record {
      onward = onward;
      inside = near;
      passed = λ k below above. passing text rest from (length rest) Passed e m k (omega (arith, near, long text rest from e)) above;
      found = λ h. absurd (omega arith);
    }
