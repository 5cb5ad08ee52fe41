-- What is said of a point of a body: where there is one its bytes stand at an even distance from the start, and where there is none it is read as one of no channel.
use Rattle.std.specs.Prelude.{Result, Ok, Err, ⊤}
use mathlib.Core.Path.{◌≡◌, refl, sym, ap, ◌∙◌}
use mathlib.Core.Bool.{Bool, true, false, cond}
use mathlib.Core.List.{List}
use Prim.Native.Nat.{ℕ, ◌+◌, ◌*◌, ◌≤◌, ◌<◌}
use native.Mathlib.Nat.{mul-le-mul_right}
use native.Mathlib.Omega.{arith}
use borrow.Author.Tests.{ltb-true}
use lib.Dec.{ltb}
use lib.IntN.{ℤ}
use lib.ListN.{length, replicate}
use Rattle.formats.specs.Bytes.{impossible}
use Rattle.formats.specs.Reader.{Answer, ok, short, bad, read_at, times}
use Rattle.formats.specs.Compose.{at-start}
use Rattle.formats.proofs.Ends.{at-within}
use Rattle.formats.specs.Fixed.{times-length}
use Rattle.formats.proofs.FixedLaws.{fixed-times}
use Rattle.refusals.specs.declared.Refusal.TheVariants.{LeftOver, NoPoint, Maximum}
use Rattle.channels.specs.Descriptors.{included, stored}
use Rattle.points.specs.Points.{point, width}
use Rattle.points.specs.Laws.{fixed-point, nth-point}
use Rattle.point_places.specs.Places as places
use Rattle.point_places.specs.Places.{nowhere}
use Rattle.point_places.specs.PlaceLaws.{read-nowhere}
use Rattle.templates.specs.declared.Template.{Template}
use Rattle.templates.specs.declared.Judged as templates
use Rattle.bodies.specs.Body.{begun, points_in}
use Rattle.bodies.specs.Reading.{ruled, rule_of, exceeds, verdict_by, verdict_of, judged_if, judged_by, read, pointed_at, pointed_by, places_if, places_by}
use Rattle.bodies.specs.declared.Rule.{Rule}
use Rattle.bodies.proofs.DemandLaws.{said_of}
use Rattle.bodies.specs.declared.Refused.TheVariants as whose
use Rattle.bodies.specs.declared.Refused.{Refused}
use Rattle.refusals.specs.declared.Refusal.{Refusal}

-- a verdict that is a body tells what was read
record Read (x : Answer (List (List ℤ))) (count : ℕ) : Type 0 where
  points : List (List ℤ)
  end : ℕ
  read : x ≡ ok points end
  many : length points ≡ count

body-read : (limited : Bool) (maximum size : ℕ) (x : Answer (List (List ℤ))) {count : ℕ} → verdict_by limited maximum size x ≡ Ok count → Read x count
unfolding verdict_by
body-read limited maximum size (ok points n) {count} e = go (ltb n size) (exceeds limited maximum (length points)) e
  where
    go : (t u : Bool) → cond t (Err (whose.Body (LeftOver n))) (cond u (Err (whose.Body Maximum)) (Ok (length points))) ≡ Ok count → Read (ok points n) count
    go true u e = impossible (cc)
    go false true e = impossible (cc)
    go false false e = record { points = points; end = n; read = refl; many = cc }
body-read limited maximum size short e = impossible (cc)
body-read limited maximum size (bad k p) e = impossible (cc)

-- and so does a point of it
record Pointing (x : Answer (List (List ℤ))) (index : ℕ) : Type 0 where
  points : List (List ℤ)
  end : ℕ
  read : x ≡ ok points end
  there : index < length points

point-read : (limited : Bool) (maximum size : ℕ) (x : Answer (List (List ℤ))) (index : ℕ) (v : Result ℕ Refused) → verdict_by limited maximum size x ≡ v → pointed_at index v ≡ Ok tt
    → Pointing x index
point-read limited maximum size x index (Ok count) e q = go (ltb index count) refl q
  where
    go : (t : Bool) → ltb index count ≡ t → ◌≡◌ {A = Result ⊤ Refused} (cond t (Ok tt) (Err (whose.Body NoPoint))) (Ok tt) → Pointing x index
    go true h q = let r = body-read limited maximum size x e in record { points = r.points; end = r.end; read = r.read; there = omega (arith, ltb-true index count h, r.many) }
    go false h q = impossible (cc)
point-read limited maximum size x index (Err refused) e q = impossible (cc)

ruled-point : (x : Result ⊤ Refusal) (t : Template) (b : List ℕ) (index : ℕ) → pointed_at index (judged_if x t b).verdict ≡ Ok tt → Pointing (read t b) index
ruled-point (Ok _) t b index e =
    let v = verdict_of t b in
    point-read _ _ _ (read t b) index v refl (ap (pointed_at index) (sym (said_of t.description v)) ∙ e)
ruled-point (Err refusal) t b index e = impossible (cc)

no-places : (p : Result ⊤ Refused) → (p ≡ Ok tt → ⊥) → (index : ℕ) (t : Template) (b : List ℕ) → nowhere ≡ places_if p index t b
no-places (Ok _) h index t b = absurd (h refl)
no-places (Err refused) h index t b = refl

module _ (index : ℕ) (j : templates.Judged) (b : List ℕ) where
  -- a point is read by some flags, from a place on
  abbrev pub Shown : List Bool → List Bool → ℕ → Type 0
  Shown included stored start = places.places_in included stored (read_at (point 1 stored) b start) ≡ places_by index j b

  -- no point is read as one of no channel
  pub shown-none : {p : Result ⊤ Refused} → p ≡ pointed_by index j b → (p ≡ Ok tt → ⊥) → Shown (replicate 16 false) (replicate 16 false) 0
  unfolding places_by
  shown-none {p} e h = read-nowhere 1 b 0 ∙ no-places p h index j.template b ∙ ap (λ p. places_if p index j.template b) e

  module _ (e : pointed_by index j b ≡ Ok tt) where
    abbrev flags : List Bool
    flags = stored j.template.description

    pointing : Pointing (read j.template b) index
    unfolding pointed_by judged_by
    pointing = ruled-point (ruled j) j.template b index e

    -- the points, read from the start
    from_start : read_at (times (begun (width 1 flags) (length b)) (point 1 flags)) b 0 ≡ ok pointing.points pointing.end
    unfolding points_in
    from_start = at-start (times (begun (width 1 flags) (length b)) (point 1 flags)) b ∙ pointing.read

    within : index < begun (width 1 flags) (length b)
    within = omega (arith, pointing.there, times-length (point 1 flags) b (begun (width 1 flags) (length b)) 0 from_start)

    lies : index * width 1 flags ≤ length b
    lies =
        let n = begun (width 1 flags) (length b) in
        let z = fixed-times (point 1 flags) (width 1 flags) (fixed-point 1 flags) n b 0 pointing.points pointing.end (omega arith) from_start in
        let y = (at-within (times n (point 1 flags)) b 0 from_start (omega arith)).1 in
        omega (arith, z, y, mul-le-mul_right {m = index} {n = n} (width 1 flags) (omega (arith, within)))

    there : Shown (included j.template.description) flags (index * width 1 flags)
    unfolding places_by places.places_in
    there =
        let n = begun (width 1 flags) (length b) in
        let z : 0 + index * width 1 flags ≡ index * width 1 flags = omega arith in
        ap (places.places_in (included j.template.description) flags) (rw z at (nth-point 1 flags b n 0 pointing.points pointing.end (omega arith) from_start index within))
        ∙ sym (rw (e, pointing.read) refl)

    -- by its rule
    module _ (rule : Rule) (f : rule ≡ rule_of j) {w : ℕ} (q : w ≡ width 1 rule.stored) where
      pub point-within : index * w ≤ length b
      point-within = rw (q, f) lies

      pub shown-there : Shown rule.included rule.stored (index * w)
      shown-there =
          ap (λ n. places.places_in rule.included rule.stored (read_at (point 1 rule.stored) b (index * n))) q
          ∙ ap (λ r. places.places_in r.included r.stored (read_at (point 1 r.stored) b (index * width 1 r.stored))) f
          ∙ there
