-- `point_places::places` meets its contract. The invariant: the point is told by the places so far and what the channels left have from here.
use mathlib.Core.Path.{◌≡◌, refl, sym, ◌∙◌}
use native.Mathlib.Omega.{arith}
use borrow.Author.Rules.{rules}
use lib.ListN.{length, replicate, length-set}
use Rattle.formats.specs.Gathered.{gathered_none}
use Rattle.channels.specs.declared.Place.TheVariants.{Absent}
use Rattle.point_places.proofs.Setting.{set_more, set-failed, set-end}
use Rattle.point_places.proofs.places.Goals as goal
use Rattle.point_places.proofs.places.Goals.{After-place_at-found, At-loop-channel, Start}

sixteen : (s : Start) → length s.args.stored ≡ 16
sixteen s = search rules

pub loop-channel-init : goal.loop-channel-init
loop-channel-init c = (refl, gathered_none _ _ _ _ (replicate 16 Absent))

pub returns-in_default : goal.returns-in_default
returns-in_default c =
    let x = (goal.at.returns-in_default c).After-place_at-found in
    let l = (goal.at.After-place_at-found x).At-loop-channel in
    sym (set-failed _ _ _ _ _ _ _ _ (omega (arith, sixteen (goal.at.At-loop-channel l).Start)) l.loop-channel.invariant.1 (sym c.in_default.is ∙ x.place_at-found.ensures))

pub loop-channel-preserved : goal.loop-channel-preserved
loop-channel-preserved c =
    let x = (goal.at.loop-channel-preserved c).After-place_at-found in
    let l = (goal.at.After-place_at-found x).At-loop-channel in (
      simp length-set l.loop-channel.invariant.0,
      set_more _ _ _ _ _ _ _ _ (omega (arith, sixteen (goal.at.At-loop-channel l).Start)) l.loop-channel.invariant.1 (omega (arith, l.loop-channel.invariant.0)) (sym c.in-Ok.is ∙ x.place_at-found.ensures),
    )

pub returns : goal.returns
returns c =
    let l = (goal.at.returns c).At-loop-channel in
    sym (set-end _ _ _ _ _ _ l.loop-channel.channel l.loop-channel.at (omega (arith, sixteen (goal.at.At-loop-channel l).Start)) (omega (arith, l.loop-channel.invariant.0)) l.loop-channel.invariant.1)
