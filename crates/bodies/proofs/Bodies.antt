-- What code is told of a body, taken back to its definitions: how many points its bytes begin, and the verdict, by how reading them ended and by its template's rule.
use Rattle.std.specs.Prelude.{Result, Ok, Err}
use mathlib.Core.Path.{◌≡◌, refl, sym, ap, ◌∙◌}
use mathlib.Core.Bool.{Bool, true, false, cond}
use mathlib.Core.List.{List}
use Prim.Native.Nat.{ℕ, zero, suc, ◌+◌, ◌/◌, ◌%◌, ◌≤◌, ◌<◌}
use native.Mathlib.Nat.{div-add-mod'}
use native.Mathlib.Omega.{arith}
use borrow.Author.Tests.{eq-eqb, ne_eqb, lt-ltb, le-ltb}
use lib.Dec.{ltb}
use lib.IntN.{ℤ}
use lib.ListN.{length}
use Rattle.formats.specs.Bytes.{impossible}
use Rattle.formats.specs.Reader.{Answer, ok, short, bad, run, read_at, times}
use Rattle.formats.specs.Compose.{at-start}
use Rattle.formats.specs.Fixed.{times-length}
use Rattle.formats.specs.Told.{told, told-done, told-failed, failed}
use Rattle.formats.specs.declared.Failure.{Failure}
use Rattle.formats.specs.declared.Failure.TheVariants as failure
use Rattle.refusals.specs.Table.{refusal_of}
use Rattle.refusals.specs.declared.Refusal.{Refusal}
use Rattle.refusals.specs.declared.Refusal.TheVariants.{LeftOver, NoPoint, Maximum}
use Rattle.channels.specs.declared.Description.{Description}
use Rattle.points.specs.Points.{point, width}
use Rattle.templates.specs.declared.Judged as templates
use Rattle.bodies.specs.Body.{begun, points_in}
use Rattle.bodies.specs.Reading.{ruled, rule_of, exceeds, verdict_by, verdict_of, unjudged, described, judged_by, pointed_at, pointed_by}
use Rattle.bodies.proofs.DemandLaws.{said_of}
use Rattle.bodies.specs.declared.Rule.{Rule}
use Rattle.bodies.specs.declared.Refused.TheVariants as whose
use Rattle.bodies.specs.declared.Refused.{Refused}

-- ---- How many points some bytes begin

pub none-begun : (w bytes : ℕ) → w ≡ 0 → 0 ≡ begun w bytes
unfolding begun
none-begun zero bytes h = refl
none-begun (suc w) bytes h = absurd (omega arith)

pub all-begun : (w bytes : ℕ) → (w ≡ 0 → ⊥) → bytes % w ≡ 0 → bytes / w ≡ begun w bytes
unfolding begun
all-begun zero bytes h q = absurd (h refl)
all-begun (suc w) bytes h q = rw (eq-eqb (bytes % suc w) 0 q) (omega arith)

pub more-begun : (w bytes : ℕ) → (w ≡ 0 → ⊥) → (bytes % w ≡ 0 → ⊥) → bytes / w + 1 ≡ begun w bytes
unfolding begun
more-begun zero bytes h q = absurd (h refl)
more-begun (suc w) bytes h q = rw (ne_eqb (bytes % suc w) 0 q) refl

-- a point that isn't whole has a byte, so they are no more than the bytes
pub more_within : (w bytes : ℕ) → (w ≡ 0 → ⊥) → (bytes % w ≡ 0 → ⊥) → bytes / w + 1 ≤ bytes
more_within zero bytes h q = absurd (h refl)
more_within (suc w) bytes h q = omega (arith, div-add-mod' bytes (suc w))

-- ---- The verdict, by how reading ended

failed-verdict : (limited : Bool) (maximum size : ℕ) (f : Failure) → (Err (whose.Body (refusal_of f))) ≡ verdict_by limited maximum size (failed f)
unfolding verdict_by
failed-verdict limited maximum size failure.Short = refl
failed-verdict limited maximum size (failure.Bad k p) = refl

module _ (stored : List Bool) (b : List ℕ) (count : ℕ) (c : count ≡ begun (width 1 stored) (length b))
    (r : Result ℕ Failure) (e : r ≡ told (read_at (times count (point 1 stored)) b 0)) (limited : Bool) (maximum : ℕ) where
  abbrev answer : Answer (List (List ℤ))
  answer = read_at (times count (point 1 stored)) b 0

  whole : answer ≡ points_in stored b
  unfolding points_in
  whole = at-start (times count (point 1 stored)) b ∙ ap (λ n. run (times n (point 1 stored)) b) c

  pub verdict-failed : {f : Failure} → r ≡ Err f → (Err (whose.Body (refusal_of f))) ≡ verdict_by limited maximum (length b) (points_in stored b)
  verdict-failed {f} o = failed-verdict limited maximum (length b) f ∙ ap (verdict_by limited maximum (length b)) (sym (told-failed answer (sym o ∙ e)) ∙ whole)

  module _ {end : ℕ} (o : r ≡ Ok end) where
    abbrev points : List (List ℤ)
    points = (told-done answer (sym o ∙ e)).0

    answered : points_in stored b ≡ ok points end
    answered = sym whole ∙ (told-done answer (sym o ∙ e)).1

    many : length points ≡ count
    many = times-length (point 1 stored) b count 0 (told-done answer (sym o ∙ e)).1

    pub verdict-left-over : end < length b → (Err (whose.Body (LeftOver end))) ≡ verdict_by limited maximum (length b) (points_in stored b)
    unfolding verdict_by
    verdict-left-over h = rw (answered, lt-ltb end (length b) h)

    module _ (h : length b ≤ end) {x : Bool} (q : x ≡ exceeds limited maximum count) where
      pub verdict-maximum : x ≡ true → (Err (whose.Body Maximum)) ≡ verdict_by limited maximum (length b) (points_in stored b)
      unfolding verdict_by
      verdict-maximum t = rw (answered, le-ltb end (length b) h, many, ← q, t)

      pub verdict-body : x ≡ false → Ok count ≡ verdict_by limited maximum (length b) (points_in stored b)
      unfolding verdict_by
      verdict-body t = rw (answered, le-ltb end (length b) h, many, ← q, t)

-- ---- The verdict, by its template's rule

bodied : {d : Description} (v : Result ℕ Refused) → ((r : Refused) → v ≡ Err r → ⊥) → record { verdict = v; description = d } ≡ described d v
bodied (Ok count) h = refl
bodied (Err r) h = absurd (h r refl)

-- whether there is a point, by its count
module _ (index count : ℕ) where
  pub pointed-there : index < count → Ok tt ≡ pointed_at index (Ok count)
  pointed-there h = rw (lt-ltb index count h)

  pub pointed-none : count ≤ index → (Err (whose.Body NoPoint)) ≡ pointed_at index (Ok count)
  pointed-none h = rw (le-ltb index count h)

module _ (j : templates.Judged) (b : List ℕ) (rule : Rule) (e : rule ≡ rule_of j) where
  module _ {refusal : Refusal} (q : rule.judgement ≡ Err refusal) where
    refused : ruled j ≡ Err refusal
    refused = sym (ap (λ r. r.judgement) e) ∙ q

    pub judged-refused : unjudged (Err (whose.Template refusal)) ≡ judged_by j b
    unfolding judged_by
    judged-refused = rw refused

    pub pointed-refused : (index : ℕ) → (Err (whose.Template refusal)) ≡ pointed_by index j b
    unfolding pointed_by
    pointed-refused index = ap (λ x. pointed_at index x.verdict) judged-refused

  module _ (q : rule.judgement ≡ Ok tt) {v : Result ℕ Refused} (o : v ≡ verdict_by rule.limited rule.maximum (length b) (points_in rule.stored b)) where
    passed : ruled j ≡ Ok tt
    passed = sym (ap (λ r. r.judgement) e) ∙ q

    same : v ≡ verdict_of j.template b
    same = o ∙ ap (λ r. verdict_by r.limited r.maximum (length b) (points_in r.stored b)) e

    pub judged-passed : described j.template.description v ≡ judged_by j b
    unfolding judged_by
    judged-passed = rw (passed, same)

    pub pointed-passed : {w : Result ℕ Refused} → v ≡ w → (index : ℕ) → pointed_at index w ≡ pointed_by index j b
    unfolding pointed_by
    pointed-passed r index =
        ap (pointed_at index) (sym r ∙ sym (said_of j.template.description v)) ∙ ap (λ x. pointed_at index x.verdict) judged-passed

    pub judged-faulty : {r : Refused} → v ≡ Err r → unjudged v ≡ judged_by j b
    judged-faulty r = let z : unjudged v ≡ described j.template.description v = rw r in z ∙ judged-passed

    -- where it isn't refused there is a body
    pub judged-body : ((r : Refused) → v ≡ Err r → ⊥) → record { verdict = v; description = j.template.description } ≡ judged_by j b
    judged-body h = bodied v h ∙ judged-passed
