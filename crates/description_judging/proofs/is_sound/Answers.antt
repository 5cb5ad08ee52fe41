-- `description_judging::is_sound` meets its contract. The invariant: all are sound where those from here on are, and the highest bit of the signs is this channel's. The measure is the number of channels left.
use mathlib.Core.Path.{◌≡◌, sym, ◌∙◌}
use native.Mathlib.Omega.{arith}
use lib.ListN.{length, get_or}
use Rattle.channels.specs.BitLaws.{moved_on, signs-none, sign-first}
use Rattle.channels.specs.Channel.{width_of}
use Rattle.channels.specs.Descriptors.{absent}
use Rattle.descriptions.specs.Description.{tidy_descriptor, fits_descriptor, neat, all_fit}
use Rattle.description_judging.proofs.Judging.{every-both, every-none, every-fails, every-passes}
use Rattle.description_judging.proofs.is_sound.Invariants.{sound}
use Rattle.description_judging.proofs.is_sound.Goals as goal
use Rattle.description_judging.proofs.is_sound.Goals.{After-sound_descriptor, At-loop-d, Else-not-sound_descriptor, Start}

sixteen : (s : Start) → length s.args.description.channels ≡ 16
sixteen s = s.well_formed.0.1.1.0.1.0.1

pub loop-d-init : goal.loop-d-init
unfolding neat all_fit
loop-d-init c = (signs-none c.signs-signs.ensures, every-both (λ channel. tidy_descriptor) (fits_descriptor (width_of c.args.format)) 0 c.args.description.channels)

-- the channel is judged with its sign
module _ (c : After-sound_descriptor) where
  abbrev turn : At-loop-d
  turn = (goal.at.After-sound_descriptor c).At-loop-d

  abbrev start : Start
  start = (goal.at.At-loop-d turn).Start

  judged : c.sound_descriptor.result ≡ sound (width_of start.args.format) turn.loop-d.d-index (get_or start.args.description.channels turn.loop-d.d-index absent)
  judged = c.sound_descriptor.ensures turn.loop-d.d-index (c.leads.ensures ∙ sign-first turn.loop-d.invariant.0 c.loop-d-test.true)

pub returns-then-not-sound_descriptor : goal.returns-then-not-sound_descriptor
returns-then-not-sound_descriptor c =
    let m = (goal.at.returns-then-not-sound_descriptor c).After-sound_descriptor in
    let l = turn m in
    let a = (start m).args in
    sym
    (l.loop-d.invariant.1
    ∙ every-fails (sound (width_of a.format)) a.description.channels l.loop-d.d-index (omega (arith, sixteen (start m))) (sym (judged m) ∙ c.if-not-sound_descriptor.true))

pub loop-d-preserved : goal.loop-d-preserved
loop-d-preserved c =
    let e = (goal.at.loop-d-preserved c).Else-not-sound_descriptor in
    let m = (goal.at.Else-not-sound_descriptor e).After-sound_descriptor in
    let l = turn m in
    let a = (start m).args in (
      moved_on l.loop-d.invariant.0 c.behind_first-signs.ensures,
      l.loop-d.invariant.1
          ∙ every-passes (sound (width_of a.format)) a.description.channels l.loop-d.d-index (omega (arith, sixteen (start m))) (sym (judged m) ∙ e.if-not-sound_descriptor.false),
    )

pub returns : goal.returns
returns c =
    let l = (goal.at.returns c).At-loop-d in
    let a = l.args in
    sym (l.loop-d.invariant.1 ∙ every-none (sound (width_of a.format)) a.description.channels l.loop-d.d-index (omega (arith, sixteen (goal.at.At-loop-d l).Start)))
