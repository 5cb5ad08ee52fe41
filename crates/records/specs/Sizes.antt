-- How long the parts of a record can be: a header has at most 187 bytes, and a sample point at most 31.
use Rattle.std.specs.Prelude.{◌≡◌, ◌*◌, ◌≤◌, length}
use Rattle.std.proofs.Common.{◌∙◌, arith, length-append}
use mathlib.Core.List.{flat_map}
use Rattle.std.proofs.lemmas.List.{length-map}
use Rattle.channels.specs.declared.Description.{Description}
use Rattle.points.specs.Points.{width, encode_point}
use Rattle.points.specs.Laws.{full-width, points-length}
use Rattle.channels.specs.Descriptors.{is_stored, stored}
use Rattle.descriptions.specs.SizeLaws.{description-size}
use Rattle.records.specs.Record.{Record, header, Valid}

-- four bytes of the identifier, four of the version, a description and the reserved byte
pub header-size : (d : Description) → length (header d) ≤ 187
header-size d = simp length-append (omega (arith, description-size 2 d))

-- so of a valid record
pub record Sizes (r : Record) : Type 0 where
  pub before : length (header r.description) ≤ 187
  pub each : width 2 (stored r.description) ≤ 31
  pub together : length (flat_map (encode_point 2 (stored r.description)) r.points) ≡ length r.points * width 2 (stored r.description)

pub sizes : (r : Record) → Valid r → Sizes r
sizes r h = record {
  before = header-size r.description;
  each = full-width (stored r.description) (length-map r.description.channels is_stored ∙ h.description.sixteen);
  together = points-length 2 (stored r.description) r.points h.points;
}
