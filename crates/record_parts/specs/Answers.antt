-- Each public function has one answer: whatever meets its promise is the same. A part of a slice is the same bytes in the same memory.
use Rattle.std.specs.Prelude.{List, ℕ, length}
use Rattle.std.specs.Borrow.{Bor}
use Rattle.formats.specs.Reader.{run}
use Rattle.formats.specs.Part.{Part, SamePart, one-part}
use Rattle.records.specs.Record.{full_record}
use Rattle.record_parts.specs.Parts.{extended_place, extended_size, rest_place, rest_size}

module _ (s r q : Bor (List ℕ)) where
  pub one-extended : Part s r (extended_place (run full_record s.now)) (extended_size (run full_record s.now))
      → Part s q (extended_place (run full_record s.now)) (extended_size (run full_record s.now)) → SamePart r q
  one-extended = one-part s r q _ _

  pub one-rest : Part s r (rest_place (run full_record s.now)) (rest_size (length s.now) (run full_record s.now))
      → Part s q (rest_place (run full_record s.now)) (rest_size (length s.now) (run full_record s.now)) → SamePart r q
  one-rest = one-part s r q _ _
