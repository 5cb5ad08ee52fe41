-- Document 01's M, the shortest record: so there is a record.
use Rattle.std.specs.Prelude.{refl, false, List, [], ◌∷◌, ℕ, length}
use Rattle.formats.specs.Bytes.{Bytes}
use Rattle.formats.specs.Reader as reader
use Rattle.formats.specs.Reader.{next, run, bind, each, times, one, free, literal}
use Rattle.formats.specs.Number as numbers
use Rattle.formats.specs.Number.{number}
use Rattle.formats.proofs.WritesLaws.{writes-literal}
use Rattle.channels.specs.Channel.{signed_of}
use Rattle.channels.specs.Stored.{offset, value_of}
use Rattle.descriptions.specs.Description.{attribute, descriptor, includes, channel_of, description}
use Rattle.points.specs.Points.{stored_from, channels, sample, point}
use Rattle.records.specs.Record.{extension, full_record, IsRecord, present}
use Rattle.record_reading.specs.Verdict.{verdict_from, judged_whole}
use Rattle.demands.specs.Judging.{whole-exactly}

-- X and Y, and no other channel; no descriptor but 00 00 of each, no points, and no extended data
abbrev pub M : List ℕ
M = 0x53 ∷ 0x44 ∷ 0x49 ∷ 0x00 ∷ 0x20 ∷ 0x31 ∷ 0x30 ∷ 0x00 ∷ 0xC0 ∷ 0x00 ∷ 0x00 ∷ 0x00 ∷ 0x00 ∷ 0x00 ∷ 0x00 ∷ 0x00 ∷ 0x00 ∷ []

pub m-bytes : Bytes M
m-bytes = (writes-literal 2 M tt).bytes tt tt

-- M is a record, since judge_whole says so
pub m-is-record : IsRecord M
unfolding run next bind reader.map each times one free literal number value_of offset signed_of attribute descriptor includes channel_of description
    stored_from channels sample point extension full_record numbers.value present verdict_from judged_whole
m-is-record = (whole-exactly M m-bytes (judged_whole (length M) (run full_record M)) refl).0 (17, record { count = 0; extended = false; accepted = refl })
