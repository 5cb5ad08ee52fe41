-- What a lookup finds, by how reading the front and reading the point ended.
use Rattle.std.specs.Prelude.{◌≡◌, Bool, List, ℕ, ◌≤◌, ◌<◌, ℤ, length, Ok, Err}
use Rattle.std.proofs.Math.Path.{refl, ap}
use Rattle.std.proofs.Common.{sym, ◌∙◌, arith, lt-ltb, le-ltb}
use Rattle.formats.specs.Reader.{Reader, Answer, ok, read_at}
use Rattle.formats.specs.Sight.{seen, failed_sight, FailedWithin}
use Rattle.formats.proofs.SightLaws.{seen-ok, seen-failed, seen-fixed}
use Rattle.formats.specs.Told.{told, failed, answered-done, answered-failed, failed-told, told-done, told-failed}
use Rattle.formats.specs.declared.Failure.{Failure}
use Rattle.formats.specs.declared.Failure.TheVariants.{Short, Bad}
use Rattle.refusals.specs.Table.{refusal_of}
use Rattle.refusals.specs.declared.Refusal.TheVariants.{NoPoint}
use Rattle.points.specs.Points.{point, width}
use Rattle.points.specs.Laws.{fixed-point}
use Rattle.record_fronts.specs.Front.{Heading, front}
use Rattle.record_fronts.specs.Fronted.{front_of, fronted}
use Rattle.record_fronts.specs.declared.Front.{Front}
use Rattle.lookups.specs.Lookup.{refused, point_read, start_of, point_at, behind_front, look_up}

-- ---- By how reading the front ended

module _ (s : List ℕ) where
  abbrev looked : ℕ
  looked = length (seen front s 0)

  module _ {f : Front} (q : fronted (read_at front s 0) ≡ Ok f) where
    found : (h : Heading) × (n : ℕ) × (read_at front s 0 ≡ ok h n) × (front_of h n ≡ f)
    found = answered-done front_of (read_at front s 0) q

    pub front-looked : looked ≡ f.points
    front-looked = let z : found.1 ≡ f.points = ap (λ k. k.points) found.3 in omega (arith, seen-ok front s 0 found.2, z)

    counts : found.0.count ≡ f.count
    counts = ap (λ k. k.count) found.3

    module _ (index : ℕ) where
      pub not-counted : f.count ≤ index → look_up s index ≡ refused NoPoint looked
      unfolding look_up behind_front
      not-counted h = rw found.2 (rw (le-ltb index found.0.count (omega (arith, counts))))

      pub counted-there : index < f.count → look_up s index ≡ point_at s f.included f.stored looked (start_of f.stored f.points index)
      unfolding look_up behind_front
      counted-there h =
          rw found.2 (rw (lt-ltb index found.0.count (omega (arith, counts))))
          ∙ ap (λ k. point_at s k.included k.stored looked (start_of k.stored k.points index)) found.3

  module _ {f : Failure} (q : fronted (read_at front s 0) ≡ Err f) where
    pub front-told : told (read_at front s 0) ≡ Err f
    front-told = failed-told f (answered-failed front_of (read_at front s 0) q)

    refused-of : (index : ℕ) (g : Failure) → behind_front s index looked (failed g) ≡ refused (refusal_of g) looked
    unfolding behind_front
    refused-of index Short = refl
    refused-of index (Bad k p) = refl

    pub front-refused : (index : ℕ) → look_up s index ≡ refused (refusal_of f) looked
    unfolding look_up
    front-refused index = ap (behind_front s index looked) (answered-failed front_of (read_at front s 0) q) ∙ refused-of index f

-- ---- By how reading the point ended

module _ (s : List ℕ) (flags : List Bool) (start : ℕ) where
  abbrev here : Answer (List ℤ)
  here = read_at (point 2 flags) s start

  refused-point : (f : Failure) → point_read (failed f) ≡ Err (refusal_of f)
  unfolding point_read
  refused-point Short = refl
  refused-point (Bad k p) = refl

  pub point-refused : (f : Failure) → told here ≡ Err f → point_read here ≡ Err (refusal_of f)
  point-refused f e = ap point_read (told-failed here (sym e)) ∙ refused-point f

  pub point-there : {n : ℕ} → told here ≡ Ok n → (point_read here ≡ Ok tt) × (length (seen (point 2 flags) s start) ≡ width 2 flags)
  unfolding point_read
  point-there e =
      let x = (told-done here (sym e)).1 in
      (ap point_read x, seen-fixed (point 2 flags) (width 2 flags) (fixed-point 2 flags) s start x)

-- where reading fails, as many bytes are looked at as are there, or up to and with the one that is refused
pub failed-seen : {A : Type 0} (r : Reader A) (s : List ℕ) (at : ℕ) (f : Failure) → told (read_at r s at) ≡ Err f
    → (length (seen r s at) ≡ failed_sight (length s) at f) × FailedWithin (length s) at f
failed-seen r s at f e = seen-failed r s at f (told-failed (read_at r s at) (sym e))
