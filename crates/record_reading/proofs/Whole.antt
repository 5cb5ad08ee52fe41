-- A whole slice, by the verdict of its front.
use Rattle.std.specs.Prelude.{Ok, Err}
use mathlib.Core.Path.{◌≡◌, sym, ap, ◌∙◌}
use mathlib.Core.Bool.{Bool}
use Prim.Native.Nat.{ℕ, ◌-◌, ◌≤◌, ◌<◌}
use native.Mathlib.Omega.{arith}
use borrow.Author.Tests.{lt-ltb, le-ltb}
use Rattle.formats.specs.Bytes.{impossible}
use Rattle.formats.specs.Reader.{Answer, ok, short, bad}
use Rattle.refusals.specs.declared.Refusal.{Refusal}
use Rattle.refusals.specs.declared.Refusal.TheVariants.{LeftOver}
use Rattle.records.specs.Record.{Record}
use Rattle.record_reading.specs.Verdict.{verdict_from, judged, unjudged, judged_whole}
use Rattle.record_reading.specs.declared.Judged.{Judged}
use Rattle.record_reading.specs.Extents.{same_extent}

pub left_over : (x : Answer Record) (r : Judged) (size : ℕ) → r ≡ judged x → {n k : ℕ} {t : Bool} → r.verdict ≡ Ok (record { length = n; count = k; extended = t }) → n < size
    → unjudged (Err (LeftOver n)) ≡ judged_whole size x
unfolding verdict_from judged_whole
left_over (ok v m) r size e {n} g h =
    let z : n ≡ m - 0 = (same_extent (sym g ∙ ap (λ y. y.verdict) e)).0 in
    let w : n ≡ m = omega arith in
    rw w (rw (lt-ltb m size (rw w at h)))
left_over short r size e g h = impossible (cc (ap (λ y. y.verdict) e))
left_over (bad j p) r size e g h = impossible (cc (ap (λ y. y.verdict) e))

pub all_of : (x : Answer Record) (r : Judged) (size : ℕ) → r ≡ judged x → {n k : ℕ} {t : Bool} → r.verdict ≡ Ok (record { length = n; count = k; extended = t }) → size ≤ n → r ≡ judged_whole size x
unfolding verdict_from judged_whole
all_of (ok v m) r size e {n} g h =
    let z : n ≡ m - 0 = (same_extent (sym g ∙ ap (λ y. y.verdict) e)).0 in
    let w : n ≡ m = omega arith in
    e ∙ rw (le-ltb m size (rw w at h))
all_of short r size e g h = e
all_of (bad j p) r size e g h = e

-- what is not a record stays as it was judged
pub stays-refused : (x : Answer Record) (r : Judged) (size : ℕ) → r ≡ judged x → {f : Refusal} → r.verdict ≡ Err f → r ≡ judged_whole size x
unfolding verdict_from judged_whole
stays-refused (ok v m) r size e g = impossible (cc (ap (λ y. y.verdict) e))
stays-refused short r size e g = e
stays-refused (bad j p) r size e g = e
