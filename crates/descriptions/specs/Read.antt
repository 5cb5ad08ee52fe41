-- What the code that reads a description answers.
use Rattle.std.specs.Prelude.{◌≡◌, Bool, cond, List, ℕ, ◌+◌, ℤ, replicate, Result, Ok, Err}
use Rattle.std.proofs.Math.Path.{refl, ap}
use Rattle.formats.specs.Reader.{Reader, Answer, ok, short, bad, read_at, map, each}
use Rattle.formats.specs.Told.{told, failed, answered, answered-done, answered-failed, failed-answered, then_told}
use Rattle.formats.specs.Bytes.{impossible}
use Rattle.formats.specs.Binary.{bit}
use Rattle.formats.specs.declared.Failure.{Failure}
use Rattle.channels.specs.Channel.{channels, width_of}
use Rattle.channels.specs.Stored.{value_of}
use Rattle.channels.specs.declared.Description.{Description}
use Rattle.channels.specs.declared.Format.{Format}
use Rattle.channels.specs.Descriptors.{absent, included, stored}
use Rattle.descriptions.specs.Description.{channel_of}
use Rattle.descriptions.specs.declared.Inclusion.{Inclusion}
use Rattle.descriptions.specs.declared.Described.{Described}
use Rattle.descriptions.specs.declared.Measured.{Measured}

-- sixteen channels, none of them included, and the mark of the format that was looked for
unfoldable pub nothing : Format → Description
nothing format = record { channels = replicate 16 absent; mark = format }

-- the description, of each channel whether it is included and whether a sample point holds a number of it, and where it ends
abbrev pub described_to : Description → ℕ → Described
described_to d n = record { end = n; included = included d; stored = stored d; description = d }

abbrev pub described : Answer Description → Result Described Failure
described x = answered described_to x

-- the same without the description
abbrev pub undescribed : Described → Measured
undescribed d = record { end = d.end; included = d.included; stored = d.stored }

abbrev pub measured : Answer Description → Result Measured Failure
measured x = answered (λ d n. undescribed (described_to d n)) x

-- where what was described ends is where reading told, and a failure is the one that reading told
pub outcome-told : (x : Answer Description) → then_told (described x) (λ d. Ok d.end) ≡ told x
unfolding answered then_told told
outcome-told (ok d n) = refl
outcome-told short = refl
outcome-told (bad k p) = refl

-- and what was only measured so
pub measured-told : (x : Answer Description) → then_told (measured x) (λ m. Ok m.end) ≡ told x
unfolding answered then_told told
measured-told (ok d n) = refl
measured-told short = refl
measured-told (bad k p) = refl

-- what was described, taken back to the answer
pub described-done : (x : Answer Description) {d : Described} → described x ≡ Ok d → (x ≡ ok d.description d.end) × (d ≡ described_to d.description d.end)
described-done x {d} e = let a = answered-done described_to x e in rw (← a.3) (a.2, refl)

pub described-failed : (x : Answer Description) {f : Failure} → described x ≡ Err f → x ≡ failed f
described-failed x e = answered-failed described_to x e

-- what was described, measured
pub measured-done : (x : Answer Description) {e : Described} → described x ≡ Ok e → measured x ≡ Ok (undescribed e)
unfolding answered
measured-done (ok d n) {e} q = let z : described_to d n ≡ e = cc in ap (λ x. Ok (undescribed x)) z
measured-done short e = impossible (cc)
measured-done (bad k p) e = impossible (cc)

pub measured-failed : (x : Answer Description) {f : Failure} → described x ≡ Err f → measured x ≡ Err f
measured-failed x {f} e = failed-answered _ f (described-failed x e)

-- ---- What its parts answer

-- what is read behind a part, by how that ended
unfoldable pub behind : {A B : Type 0} → (B → Answer A) → Result B Failure → Answer A
behind next (Ok v) = next v
behind next (Err f) = failed f

-- the descriptors, behind the inclusion bytes
unfoldable pub channels_from : Format → (inclusion : ℕ) → Reader Description
channels_from format inclusion = map (λ ds. record { channels = ds; mark = format }) (each channels (channel_of (width_of format) inclusion))

abbrev pub channels_behind : Format → List ℕ → Inclusion → Answer Description
channels_behind format s i = read_at (channels_from format i.bits) s i.end

-- the number that is stored as 0, with a sign or without
abbrev pub Least : (w : ℕ) → ℤ → Type 0
Least w least = (signed : Bool) × (least ≡ value_of w signed 0)

-- how many bytes the attributes have that a descriptor's first byte announces, and the descriptor with it
unfoldable pub attributes_size : (w b : ℕ) → ℕ
attributes_size w b = cond (bit 8 b) 2 0 + (cond (bit 7 b) w 0 + (cond (bit 6 b) w 0 + (cond (bit 5 b) w 0 + (cond (bit 4 b) w 0 + 0))))

unfoldable pub descriptor_size : (w b : ℕ) → ℕ
descriptor_size w b = 1 + attributes_size w b
