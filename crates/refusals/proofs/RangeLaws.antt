-- The number that is named is the first that does not fit, and the only one: by the numbers, one at a time.
use Rattle.std.specs.Prelude.{◌≡◌, refl, ◌↔◌, Bool, true, false, List, [], ◌∷◌, ◌++◌, Result, Ok, Err, ⊤}
use Rattle.std.proofs.Common.{sym, ap, ap₂, ◌∙◌}
use Rattle.formats.specs.Bytes.{impossible}
use Rattle.formats.specs.Writes.{All}
use Rattle.refusals.specs.Stages.{require, or_else, require-passed, or-else-passed, or-else-assoc}
use Rattle.refusals.specs.Ranges.{Ranged, ◌fits_if◌, first_misfit, AllFit, FirstOutside}
use Rattle.refusals.specs.declared.Quantity.{Quantity}
use Rattle.refusals.specs.declared.Refusal.TheVariants.{OutOfRange}
use Rattle.refusals.specs.declared.Refusal.{Refusal}

-- ---- None is named exactly where all fit

pub passed-fit : (l : List Ranged) → first_misfit l ≡ Ok tt → AllFit l
unfolding first_misfit
passed-fit [] e = tt
passed-fit (number ∷ l) e = let x = or-else-passed _ (first_misfit l) e in (require-passed number.fits _ x.0, passed-fit l x.1)

pub fit_passed : (l : List Ranged) → AllFit l → first_misfit l ≡ Ok tt
unfolding first_misfit or_else require
fit_passed [] h = refl
fit_passed (number ∷ l) h = rw h.0 (fit_passed l h.1)

-- ---- Numbers behind numbers

-- what all say is what the first say, and where these fit the others
pub joined : (l m : List Ranged) → first_misfit (l ++ m) ≡ or_else (first_misfit l) (first_misfit m)
unfolding first_misfit or_else
joined [] m = refl
joined (number ∷ l) m = ap (or_else (require number.fits (OutOfRange number.name))) (joined l m) ∙ sym (or-else-assoc (require number.fits (OutOfRange number.name)) (first_misfit l) (first_misfit m))

-- ---- One is named exactly where it is the first that does not fit

pub named-first : (l : List Ranged) (name : Quantity) → first_misfit l ≡ Err (OutOfRange name) → FirstOutside l name
unfolding first_misfit or_else require
named-first [] name e = impossible (cc)
named-first (number ∷ l) name e = go number.fits refl e (named-first l name)
  where
    go : (t : Bool) → number.fits ≡ t → or_else (require t (OutOfRange number.name)) (first_misfit l) ≡ Err (OutOfRange name)
        → (first_misfit l ≡ Err (OutOfRange name) → FirstOutside l name) → FirstOutside (number ∷ l) name
    go true f h rest =
        let x = rest h in
        record { earlier = number ∷ x.earlier; later = x.later; stands = ap (λ k. number ∷ k) x.stands; before = (f, x.before) }
    go false f h rest =
        let n : number.name ≡ name = cc in
        record { earlier = []; later = l; stands = ap₂ (λ q t. (q fits_if t) ∷ l) n f; before = tt }

pub first-named : (l : List Ranged) (name : Quantity) → FirstOutside l name → first_misfit l ≡ Err (OutOfRange name)
unfolding first_misfit or_else require
first-named l name x = ap first_misfit x.stands ∙ joined x.earlier ((name fits_if false) ∷ x.later) ∙ rw (fit_passed x.earlier x.before)

pub first-exactly : (l : List Ranged) (name : Quantity) → (first_misfit l ≡ Err (OutOfRange name)) ↔ FirstOutside l name
first-exactly l name = (named-first l name, first-named l name)

-- so no two names are the first
same_name : (q r : Quantity) → ◌≡◌ {A = Result ⊤ Refusal} (Err (OutOfRange q)) (Err (OutOfRange r)) → q ≡ r
same_name q r e = cc

pub one-first : (l : List Ranged) (name other : Quantity) → FirstOutside l name → FirstOutside l other → name ≡ other
one-first l name other x y = same_name name other (sym (first-named l name x) ∙ first-named l other y)

-- ---- What holds of each number holds of the one that is named

module _ (P : Ranged → Type 0) where
  at : (earlier : List Ranged) (number : Ranged) (later : List Ranged) → All P (earlier ++ number ∷ later) → P number
  at [] number later h = h.0
  at (other ∷ earlier) number later h = at earlier number later h.1

  pub of-first : (l : List Ranged) (name : Quantity) → All P l → FirstOutside l name → P (name fits_if false)
  of-first l name h x = at x.earlier (name fits_if false) x.later (rw x.stands at h)
