-- The three ways that writing a description goes, and what is written of it reads back as it.
use Rattle.std.specs.Prelude.{◌≡◌, List, ◌++◌, ℕ, ◌+◌, ◌≤◌, ◌<◌, take, Ok, Err}
use Rattle.std.proofs.Common.{ap, arith, length-take-le}
use borrow.Author.Tests.{le-leb, lt-leb}
use Rattle.std.proofs.Math.ListN.{length, drop}
use Rattle.std.proofs.Math.Seq.{drop_at}
use Rattle.formats.specs.Put.{puts, puts-is}
use Rattle.formats.specs.Reader.{ok, after, read_at}
use Rattle.formats.proofs.WritesLaws.{read-written}
use Rattle.formats.specs.Lent.{writing}
use Rattle.refusals.specs.declared.Refusal.{Refusal}
use Rattle.refusals.specs.declared.Refusal.TheVariants.{Room}
use Rattle.channels.specs.Channel.{width_of}
use Rattle.channels.specs.declared.Description.{Description}
use Rattle.channels.specs.declared.Format.{Format}
use Rattle.descriptions.specs.Description.{description, encode_description, Valid}
use Rattle.descriptions.proofs.EncodedLaws.{writes-description}
use Rattle.description_judging.specs.Judging.{judgement_of}
use Rattle.description_writing.specs.Write.{put_room, put_judged, put_if}

-- by the judgement and the room

module _ (format : Format) (d : Description) (out : List ℕ) (start : ℕ) where
  pub put-done : judgement_of format d ≡ Ok tt → start + length (encode_description (width_of format) d) ≤ length out
      → put_if format d out start ≡ writing (Ok (start + length (encode_description (width_of format) d))) (puts out start (encode_description (width_of format) d))
  unfolding put_if put_judged put_room
  put-done e h = rw (e, le-leb (start + length (encode_description (width_of format) d)) (length out) h)

  pub put-crowded : judgement_of format d ≡ Ok tt → length out < start + length (encode_description (width_of format) d) → put_if format d out start ≡ writing (Err Room) out
  unfolding put_if put_judged put_room
  put-crowded e h = rw (e, lt-leb (start + length (encode_description (width_of format) d)) (length out) h)

  pub put_refused : {refusal : Refusal} → judgement_of format d ≡ Err refusal → put_if format d out start ≡ writing (Err refusal) out
  unfolding put_if put_judged
  put_refused e = rw e

  -- what is written reads back as the description, to where it was said to end
  pub put_reads : Valid format d → start + length (encode_description (width_of format) d) ≤ length out
      → read_at (description format) (puts out start (encode_description (width_of format) d)) start ≡ ok d (start + length (encode_description (width_of format) d))
  unfolding read_at after
  put_reads v h =
      let b = encode_description (width_of format) d in
      rw
      (puts-is out start b h, drop_at (take start out) (b ++ drop (start + length b) out) start (length-take-le start out (omega arith)))
      (ap (after start) (read-written (writes-description format) (drop (start + length b) out) v))
