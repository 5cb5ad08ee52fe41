-- Where the description of a record stands: behind its identifier and its version.
use Rattle.std.specs.Prelude.{◌≡◌, refl, List, ℕ, Result, Ok}
use Rattle.std.proofs.Common.{sym, ap, ◌∙◌}
use Rattle.formats.specs.Bytes.{impossible}
use Rattle.formats.specs.Reader.{Reader, Answer, ok, short, bad, and_then, read_at, bind, literal}
use Rattle.formats.specs.Compose.{at-bind, at-bind-ok, at_done, ok-value}
use Rattle.formats.specs.Told.{told}
use Rattle.formats.specs.declared.Failure.{Failure}
use Rattle.descriptions.specs.Description.{description}
use Rattle.records.specs.Record.{Record, identifier_bytes, version_bytes, full_record}
use Rattle.channels.specs.declared.Format.TheVariants.{Full}
use Rattle.identifications.specs.Identification.{identification}

-- ---- A first part and what follows it

one_place : {m n : ℕ} → ◌≡◌ {A = Result ℕ Failure} (Ok m) (Ok n) → m ≡ n
one_place e = cc

record Parted {A B : Type 0} (r : Reader A) (k : A → Reader B) (s : List ℕ) (at : ℕ) (v : B) (n : ℕ) : Type 0 where
  value : A
  place : ℕ
  first : read_at r s at ≡ ok value place
  second : read_at (k value) s place ≡ ok v n

parted-by : {A B : Type 0} (r : Reader A) (k : A → Reader B) (s : List ℕ) (at : ℕ) {v : B} {n : ℕ} (x : Answer A) → read_at r s at ≡ x
    → and_then x (λ u m. read_at (k u) s m) ≡ ok v n → Parted r k s at v n
unfolding and_then
parted-by r k s at (ok u m) q e = record { value = u; place = m; first = q; second = e }
parted-by r k s at short q e = impossible (cc)
parted-by r k s at (bad j p) q e = impossible (cc)

parted : {A B : Type 0} (r : Reader A) (k : A → Reader B) (s : List ℕ) (at : ℕ) {v : B} {n : ℕ} → read_at (bind r k) s at ≡ ok v n → Parted r k s at v n
parted r k s at e = parted-by r k s at (read_at r s at) refl (sym (at-bind k r s at) ∙ e)

-- the identifier and the version end where the description is
identification-end : (s : List ℕ) (start : ℕ) {at n m : ℕ} {u v : Unit {0}} → told (read_at identification s start) ≡ Ok at
    → read_at (literal 2 identifier_bytes tt) s start ≡ ok u n → read_at (literal 3 version_bytes tt) s n ≡ ok v m → m ≡ at
unfolding identification told
identification-end s start e f g = one_place (sym (ap told (at-bind-ok _ _ s start f ∙ g)) ∙ e)

pub record-described : (s : List ℕ) (start : ℕ) {at n : ℕ} {r : Record} → told (read_at identification s start) ≡ Ok at → read_at full_record s start ≡ ok r n
    → (m : ℕ) × (read_at (description Full) s at ≡ ok r.description m)
unfolding full_record
record-described s start {at} {n} {r} place e =
    let identifier = parted _ _ s start e in
    let version = parted _ _ s identifier.place identifier.second in
    let channels = parted (description Full) _ s version.place version.second in
    let reserved = parted _ _ s channels.place channels.second in
    let opened = parted _ _ s reserved.place reserved.second in
    let counted = parted _ _ s opened.place opened.second in
    let pointed = parted _ _ s counted.place counted.second in
    let extended = parted _ _ s pointed.place pointed.second in
    let same = ap (λ v. v.description) (ok-value (sym (at_done _ s extended.place) ∙ extended.second)) in
    (channels.place, ap (read_at (description Full) s) (sym (identification-end s start place identifier.first version.first)) ∙ channels.first ∙ ap (λ d. ok d channels.place) same)
