-- The order of readings (request L11): what is claimed of the readings that raw numbers have by one scale.
use Rattle.std.specs.Prelude.{◌≡◌, ◌≢◌, ℕ, ◌+◌, ◌*◌, ◌^◌, ◌≤◌, ℤ, ◌≤ℤ◌, Ok, Some}
use Rattle.channels.specs.declared.Attribute.{Attribute}
use Rattle.channels.specs.declared.Place.TheVariants.{Number}
use Rattle.readings.specs.Thousandths.{told, told_place, reading, place_reading}

-- ---- What reads as what: the promise of each function, where its answer is a reading

-- to_thousandths, of raw, E and F, answers `Thousandths(x)`
abbrev pub ReadsAs : (e f : ℕ) (raw x : ℤ) → Type 0
ReadsAs e f raw x = told (Ok x) ≡ reading raw e f

-- place_thousandths, of a number place and its channel's scaling value, answers `Present(Thousandths(x))`
abbrev pub PlaceReadsAs : (scaling : Attribute) (raw x : ℤ) → Type 0
PlaceReadsAs scaling raw x = told_place (Some (Ok x)) ≡ place_reading (Number raw) scaling

-- ---- The claims

-- a greater raw number never has a smaller reading
abbrev pub KeepsOrder : (reads : ℤ → ℤ → Type 0) → Type 0
KeepsOrder reads = (raw other x y : ℤ) → raw ≤ℤ other → reads raw x → reads other y → x ≤ℤ y

-- different raw numbers have different readings
abbrev pub KeepsApart : (reads : ℤ → ℤ → Type 0) → Type 0
KeepsApart reads = (raw other x y : ℤ) → raw ≢ other → reads raw x → reads other y → x ≢ y

-- ---- What the second asks of the scale

-- scale = (2048 + F) · 2^E over 2^27 is at most 1000
abbrev pub AtMostThousand : (e f : ℕ) → Type 0
AtMostThousand e f = (2048 + f) * 2 ^ e ≤ 1000 * 2 ^ 27
