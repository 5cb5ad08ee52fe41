-- Where the extended data of a record lie and what follows it, by what reading some bytes answers.
use Rattle.std.specs.Prelude.{ℕ, ◌-◌, length}
use Rattle.formats.specs.Reader.{Answer, ok, short, bad}
use Rattle.records.specs.Record.{Record, extended_bytes}

-- where the extended data lie: they are a record's last bytes, and empty at its end where it has none; else empty at the start
unfoldable pub extended_size : Answer Record → ℕ
extended_size (ok r n) = length (extended_bytes r.extended)
extended_size short = 0
extended_size (bad k p) = 0

unfoldable pub extended_place : Answer Record → ℕ
extended_place (ok r n) = n - length (extended_bytes r.extended)
extended_place short = 0
extended_place (bad k p) = 0

-- where the bytes behind a record lie, of `size` bytes; else empty at the start
unfoldable pub rest_place : Answer Record → ℕ
rest_place (ok r n) = n
rest_place short = 0
rest_place (bad k p) = 0

unfoldable pub rest_size : (size : ℕ) → Answer Record → ℕ
rest_size size (ok r n) = size - n
rest_size size short = 0
rest_size size (bad k p) = 0
