-- The format identifier and the version that a full record begins with (7.3.2, 7.3.3).
use Rattle.formats.specs.Reader.{Reader, literal, ◌>>◌}
use Rattle.records.specs.Record.{identifier_bytes, version_bytes}

unfoldable pub identification : Reader (Unit {0})
identification = do
  literal 2 identifier_bytes tt
  literal 3 version_bytes tt
