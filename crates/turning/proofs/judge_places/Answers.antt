-- `turning::judge_places` meets its contract. The invariant: of all places is told what is told of those left.
use Rattle.std.specs.Prelude.{Option}
use mathlib.Core.Path.{◌≡◌, refl, sym, ◌∙◌}
use mathlib.Core.List.{List}
use Prim.Native.Nat.{ℕ, ◌+◌, ◌<◌}
use native.Mathlib.Omega.{arith}
use borrow.Author.Rules.{rules}
use lib.IntN.{ℤ}
use lib.ListN.{length, get_or, drop}
use mir.Syntax.{w32}
use mir.Val.{SFits, to_z, of_z}
use mir.ValLaws.{to_z-of_z}
use Rattle.refusals.specs.Stages.{require, or_else}
use Rattle.refusals.specs.declared.Quantity.TheVariants.{Value}
use Rattle.refusals.specs.declared.Refusal.TheVariants.{OutOfRange}
use Rattle.channels.specs.declared.Place.{Place}
use Rattle.channels.specs.declared.Place.TheVariants.{Absent, Number}
use Rattle.points.specs.Points.{fits_sample}
use Rattle.values.specs.Values.{stored_sample}
use Rattle.values.proofs.Lent.{fits-number, fits-outside}
use Rattle.turning.specs.Parts.{misfit_in}
use Rattle.turning.proofs.Judging.{pass-place, take-place, no_place}
use Rattle.turning.proofs.judge_places.Goals as goal
use Rattle.turning.proofs.judge_places.Goals.{in-Number+in_default-stored, in_default, At-loop-channel, Start}

sixteen : (s : Start) → length s.args.places ≡ 16
sixteen s = s.well_formed.0.1.0.1

pub loop-channel-init : goal.loop-channel-init
loop-channel-init c = (omega arith, refl)

-- where the next place holds a number
module _ (turn : At-loop-channel) where
  abbrev places : List Place
  places = turn.args.places

  abbrev channel : ℕ
  channel = turn.loop-channel.channel

  abbrev index : ℕ
  index = turn.loop-channel.index

  judged : {v : ℤ} → channel < 16 → get_or places channel Absent ≡ Number v
      → misfit_in channel index (drop channel places) ≡ or_else (require (fits_sample 1 channel v) (OutOfRange (Value index channel))) (misfit_in (channel + 1) (index + 1) (drop (channel + 1) places))
  judged {v} h e = take-place channel index places (omega (arith, sixteen (goal.at.At-loop-channel turn).Start)) e

  -- what is stored for it
  found : {v : ℤ} → SFits w32 v → {r : Option ℕ} → r ≡ stored_sample 1 channel (to_z w32 (of_z w32 v)) → r ≡ stored_sample 1 channel v
  found {v} q e = e ∙ rw (to_z-of_z w32 v q)

pub returns-in-None : goal.returns-in-None
unfolding or_else require
returns-in-None c =
    let t = (goal.at.returns-in-None c).At-loop-channel in
    let q : SFits w32 c.in-Number.value = search rules in
    let f = fits-outside 1 t.loop-channel.channel c.in-Number.value (sym (found t q c.stored_sample-stored.ensures) ∙ c.in-None.is) in
    sym (t.loop-channel.invariant.1 ∙ judged t c.loop-channel-test.true c.in-Number.is ∙ rw f)

pub overflow_add-index : goal.overflow_add-index
overflow_add-index c = record { fits = omega (arith, c.requires) }

pub loop-channel-preserved : goal.loop-channel-preserved
unfolding or_else require
loop-channel-preserved c =
    let l = (goal.at.loop-channel-preserved c).At-loop-channel in
    elim c.match-place.branch [
      | in-Number+in_default-stored w ↦
          let q : SFits w32 w.in-Number.value = search rules in
          let f = fits-number 1 l.loop-channel.channel w.in-Number.value (sym (found l q w.stored_sample-stored.ensures) ∙ w.in_default-stored.is) in
          rw w.index-is (omega arith, l.loop-channel.invariant.1 ∙ judged l c.loop-channel-test.true w.in-Number.is ∙ rw f)
      | in_default w ↦ rw w.index-is (
        omega arith,
        l.loop-channel.invariant.1 ∙ pass-place l.loop-channel.channel l.loop-channel.index l.args.places (omega (arith, sixteen (goal.at.At-loop-channel l).Start)) w.in_default.not-Number,
      )
    ]

pub returns : goal.returns
returns c =
    let l = (goal.at.returns c).At-loop-channel in
    sym (l.loop-channel.invariant.1 ∙ no_place l.loop-channel.channel l.loop-channel.index l.args.places (omega (arith, sixteen (goal.at.At-loop-channel l).Start)))
