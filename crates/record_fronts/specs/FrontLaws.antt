-- What the front of a record is told as, part by part.
use Rattle.std.specs.Prelude.{◌≡◌, Bool, List, ℕ, Ok, Err}
use Rattle.std.proofs.Math.Path.{refl, sym, ap}
use Rattle.std.proofs.Common.{◌∙◌}
use Rattle.formats.specs.Bytes.{impossible}
use Rattle.formats.specs.Reader.{Answer, ok, short, bad, and_then, done, read_at, bind}
use Rattle.formats.specs.Compose.{at-bind, at_done, at-bind-ok}
use Rattle.formats.specs.Told.{told, failed, answered, failed-answered, answered-failed, told-done, told-failed, at-bind-failed, then_told}
use Rattle.formats.specs.declared.Failure.{Failure}
use Rattle.channels.specs.declared.Description.{Description}
use Rattle.descriptions.specs.Description.{description}
use Rattle.descriptions.specs.Read.{measured}
use Rattle.descriptions.specs.declared.Measured.{Measured}
use Rattle.channels.specs.Descriptors.{included, stored}
use Rattle.channels.specs.declared.Format.TheVariants.{Full}
use Rattle.identifications.specs.Identification.{identification}
use Rattle.record_fronts.specs.Front.{Opening, headed, opened, channelled, front}
use Rattle.record_fronts.specs.Fronted.{opened_as, front_of, fronted, front_from, front_behind}
use Rattle.record_fronts.specs.declared.Opened.{Opened}

-- a failure is passed on whole
pub fronted-failed : (f : Failure) → fronted (failed f) ≡ Err f
fronted-failed f = failed-answered front_of f refl

-- ---- What follows the identifier and the version

module _ (s : List ℕ) (start : ℕ) where
  pub front-done : {n : ℕ} → told (read_at identification s start) ≡ Ok n → read_at front s start ≡ read_at channelled s n
  unfolding front
  front-done e = at-bind-ok identification _ s start (told-done (read_at identification s start) (sym e)).1

  pub front-failed : {f : Failure} → told (read_at identification s start) ≡ Err f → read_at front s start ≡ failed f
  unfolding front
  front-failed {f} e = at-bind-failed identification _ s start f (told-failed (read_at identification s start) (sym e))

-- ---- What opens a body, by how reading it ended

module _ (included stored : List Bool) where
  pub opened-failed : (x : Answer Opening) {f : Failure} → opened_as x ≡ Err f → front_from included stored x ≡ Err f
  opened-failed x {f} e = failed-answered _ f (answered-failed _ x e)

  pub opened-done : (x : Answer Opening) {o : Opened} → opened_as x ≡ Ok o
      → front_from included stored x ≡ Ok (record { included = included; stored = stored; announced = o.announced; count = o.count; points = o.points })
  unfolding answered
  opened-done (ok a n) {o} e =
      let z : record { announced = a.announced; count = a.count; points = n } ≡ o = cc in
      λ i. Ok (record { included = included; stored = stored; announced = (z i).announced; count = (z i).count; points = (z i).points })
  opened-done short e = impossible (cc)
  opened-done (bad k p) e = impossible (cc)

-- ---- The front behind channels that were measured

module _ (s : List ℕ) where
  by-opening : (d : Description) (x : Answer Opening) → fronted (and_then x (λ o n. read_at (done (headed d o)) s n)) ≡ front_from (included d) (stored d) x
  unfolding and_then answered
  by-opening d (ok o n) = ap fronted (at_done (headed d o) s n)
  by-opening d short = refl
  by-opening d (bad k p) = refl

  by-channels : (x : Answer Description)
      → fronted (and_then x (λ d n. read_at (bind opened (λ o. done (headed d o))) s n)) ≡ then_told (measured x) (front_behind s)
  unfolding and_then then_told answered
  by-channels (ok d n) = ap fronted (at-bind (λ o. done (headed d o)) opened s n) ∙ by-opening d (read_at opened s n)
  by-channels short = refl
  by-channels (bad k p) = refl

  pub channelled-is : (at : ℕ) → then_told (measured (read_at (description Full) s at)) (front_behind s) ≡ fronted (read_at channelled s at)
  unfolding channelled
  channelled-is at = sym (ap fronted (at-bind (λ d. bind opened (λ o. done (headed d o))) (description Full) s at) ∙ by-channels (read_at (description Full) s at))

  -- by how measuring them ended
  pub channelled-done : (at : ℕ) {m : Measured} → measured (read_at (description Full) s at) ≡ Ok m → front_behind s m ≡ fronted (read_at channelled s at)
  unfolding then_told
  channelled-done at e = sym (ap (λ r. then_told r (front_behind s)) e) ∙ channelled-is at

  pub channelled-failed : (at : ℕ) {f : Failure} → measured (read_at (description Full) s at) ≡ Err f → Err f ≡ fronted (read_at channelled s at)
  unfolding then_told
  channelled-failed at e = sym (ap (λ r. then_told r (front_behind s)) e) ∙ channelled-is at
