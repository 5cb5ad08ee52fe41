-- `description_writing::put_description` meets its contract: the inclusion bits and the channels are laid one behind the other. The invariant of the channels:
use mathlib.Core.Path.{◌≡◌, ◌∙◌}
use mathlib.Core.List.{◌++◌, map}
use Prim.Native.Nat.{◌+◌}
use native.Mathlib.Omega.{arith}
use lib.Dec.{T}
use lib.ListN.{length, drop, get_or}
use Rattle.formats.specs.Binary.{bit, binary}
use Rattle.formats.specs.Laid.{Laid, Owed, laid-length, laid_more, room-first, room-rest, owed_all, owed-room, owed-next, owed_none}
use Rattle.formats.specs.Number.{digits}
use Rattle.formats.specs.Writes.{encode_each}
use Rattle.channels.specs.BitLaws.{moved_on, signs-none, sign-first}
use Rattle.channels.specs.Channel.{channels, signed_of, width_of}
use Rattle.stored_numbers.specs.NumberLaws.{number-laid}
use Rattle.channels.specs.Descriptors.{absent}
use Rattle.descriptions.specs.Description.{encode_channel, encode_description, fits_descriptor, all_fit, every}
use Rattle.description_judging.proofs.Judging.{every_holds}
use Rattle.description_writing.proofs.Laying.{left, left-next, left-none}
use Rattle.description_writing.proofs.put_description.Goals as goal
use Rattle.description_writing.proofs.put_description.Goals.{After-leads, After-put_channel-at, After-put_number-at, At-loop-d, In-loop-d, Start}

sixteen : (s : Start) → length s.args.description.channels ≡ 16
sixteen s = s.well_formed.1.1.0.1.1.0.1.0.1

-- the inclusion bits are laid
module _ (n : After-put_number-at) where
  abbrev start : Start
  start = (goal.at.After-put_number-at n).Start

  laid : Laid start.args.out.now start.args.start (digits 2 (binary (map (λ d. d.included) start.args.description.channels))) n.put_number-at.new.out n.put_number-at.result
  unfolding encode_description
  laid = number-laid 2 _ _ _ (room-first _ _ start.requires.1) (rw n.inclusion.ensures at n.put_number-at.ensures)

pub loop-d-init : goal.loop-d-init
unfolding all_fit left
loop-d-init c = ((start (goal.at.loop-d-init c).After-put_number-at).requires.0, owed_all _ _ _, signs-none c.signs-signs.ensures)

-- this channel and those behind it: their numbers fit, and their bytes are what is left
module _ (c : In-loop-d) where
  abbrev number : After-put_number-at
  number = (goal.at.In-loop-d c).After-put_number-at

  sign : bit 16 c.loop-d.signs ≡ signed_of c.loop-d.d-index
  sign = sign-first c.loop-d.invariant.2 c.loop-d-test.true

  fitting : T (fits_descriptor (width_of (start number).args.format) c.loop-d.d-index (get_or (start number).args.description.channels c.loop-d.d-index absent))
      × T (every (fits_descriptor (width_of (start number).args.format)) (c.loop-d.d-index + 1) (drop (c.loop-d.d-index + 1) (start number).args.description.channels))
  fitting =
      every_holds (fits_descriptor (width_of (start number).args.format)) (start number).args.description.channels c.loop-d.d-index (omega (arith, sixteen (start number))) c.loop-d.invariant.0

  owed : Owed
      number.put_number-at.new.out
      number.put_number-at.result
      (encode_each (encode_channel (width_of (start number).args.format)) channels (start number).args.description.channels)
      c.loop-d.out
      c.loop-d.at
      (encode_channel (width_of (start number).args.format) c.loop-d.d-index (get_or (start number).args.description.channels c.loop-d.d-index absent)
      ++ left (width_of (start number).args.format) (start number).args.description.channels (c.loop-d.d-index + 1))
  owed = rw (left-next (width_of (start number).args.format) (start number).args.description.channels (sixteen (start number)) c.loop-d.d-index c.loop-d-test.true) at c.loop-d.invariant.1

pub put_channel-at-requires : goal.put_channel-at-requires
unfolding encode_description
put_channel-at-requires c =
    let l = (goal.at.put_channel-at-requires c).In-loop-d in
    let n = number l in
    (l.loop-d.d-index, c.leads.ensures ∙ sign l, (fitting l).0, room-first _ _ (owed-room (owed l) (room-rest (laid n) (start n).requires.1)))

pub loop-d-preserved : goal.loop-d-preserved
loop-d-preserved c =
    let p = (goal.at.loop-d-preserved c).After-put_channel-at in
    let e = (goal.at.After-put_channel-at p).After-leads in
    let l = (goal.at.After-leads e).In-loop-d in
    ((fitting l).1, owed-next (owed l) (p.put_channel-at.ensures l.loop-d.d-index (e.leads.ensures ∙ sign l)), moved_on l.loop-d.invariant.2 c.behind_first-signs.ensures)

pub shape_of-out : goal.shape_of-out
shape_of-out c = let l = (goal.at.shape_of-out c).At-loop-d in l.loop-d.invariant.1.kept ∙ laid-length (laid (goal.at.At-loop-d l).After-put_number-at)

pub returns : goal.returns
unfolding encode_description
returns c =
    let l = (goal.at.returns c).At-loop-d in
    let a = (start (goal.at.At-loop-d l).After-put_number-at).args in
    laid_more (laid (goal.at.At-loop-d l).After-put_number-at) (owed_none (rw (left-none (width_of a.format) a.description.channels l.loop-d.d-index c.loop-d-test.false) at l.loop-d.invariant.1))
