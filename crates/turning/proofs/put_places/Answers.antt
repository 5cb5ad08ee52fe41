-- `turning::put_places` meets its contract. The invariant: the bytes of the places that are left are owed.
use mathlib.Core.Path.{◌≡◌, refl, ◌∙◌}
use mathlib.Core.List.{List, [], ◌∷◌, ◌++◌}
use Prim.Native.Nat.{ℕ, ◌+◌, ◌<◌}
use native.Mathlib.Omega.{arith}
use borrow.Author.Rules.{rules}
use lib.IntN.{ℤ}
use lib.ListN.{length, get_or, drop}
use mir.Syntax.{w32}
use mir.Val.{SFits, to_z, of_z}
use mir.ValLaws.{to_z-of_z}
use Rattle.formats.specs.Laid.{Room, Owed, owed_all, owed-next, owed_none, owed-room, laid-byte}
use Rattle.channels.specs.declared.Place.TheVariants.{Absent, Number}
use Rattle.values.specs.Values.{sample_bytes}
use Rattle.turning.specs.Parts.{bytes_in}
use Rattle.turning.proofs.Putting.{pass-place, take-place, no-places}
use Rattle.turning.proofs.put_places.Goals as goal
use Rattle.turning.proofs.put_places.Goals.{in-Number, in_default, At-loop-channel, Start}

pub loop-channel-init : goal.loop-channel-init
loop-channel-init c = owed_all _ _ _

sixteen : (s : Start) → length s.args.places ≡ 16
sixteen s = search rules

-- what is known at each turn
module _ (turn : At-loop-channel) where
  abbrev start : Start
  start = (goal.at.At-loop-channel turn).Start

  abbrev channel : ℕ
  channel = turn.loop-channel.channel

  -- the bytes of the places behind this one
  abbrev rest : List ℕ
  rest = bytes_in (channel + 1) (drop (channel + 1) start.args.places)

  module _ (h : channel < 16) where
    within : channel < length start.args.places
    within = omega (arith, sixteen start)

    -- a number's byte comes next
    module _ {v : ℤ} {b : ℕ} (e : get_or start.args.places channel Absent ≡ Number v) (q : SFits w32 v) (p : b ∷ [] ≡ sample_bytes 1 channel (to_z w32 (of_z w32 v))) where
      owed : Owed start.args.out.now start.args.start (bytes_in 0 start.args.places) turn.loop-channel.out turn.loop-channel.at ((b ∷ []) ++ rest)
      owed = rw (take-place _ _ _ within e (p ∙ rw (to_z-of_z w32 v q))) at turn.loop-channel.invariant

      room : Room turn.loop-channel.out turn.loop-channel.at ((b ∷ []) ++ rest)
      room = owed-room owed start.requires

pub bounds-out-at : goal.bounds-out-at
bounds-out-at c =
    let q : SFits w32 c.in-Number.value = search rules in
    omega (arith, (room (goal.at.bounds-out-at c).At-loop-channel c.loop-channel-test.true c.in-Number.is q c.byte_of.ensures).enough)

pub overflow_add-at : goal.overflow_add-at
overflow_add-at c =
    let q : SFits w32 c.in-Number.value = search rules in
    record { fits = omega (arith, (room (goal.at.overflow_add-at c).At-loop-channel c.loop-channel-test.true c.in-Number.is q c.byte_of.ensures).enough) }

pub loop-channel-preserved : goal.loop-channel-preserved
loop-channel-preserved c =
    let l = (goal.at.loop-channel-preserved c).At-loop-channel in
    elim c.match-place.branch [
      | in-Number w ↦
          let q : SFits w32 w.in-Number.value = search rules in
          rw (w.out-is, w.at-is) (owed-next (owed l c.loop-channel-test.true w.in-Number.is q w.byte_of.ensures) (laid-byte _ _ refl))
      | in_default w ↦ rw (w.out-is, w.at-is) (rw (pass-place _ _ _ (within l c.loop-channel-test.true) w.in_default.not-Number) at l.loop-channel.invariant)
    ]

pub shape_of-out : goal.shape_of-out
shape_of-out c = c.loop-channel.invariant.kept

pub returns : goal.returns
returns c =
    let t = (goal.at.returns c).At-loop-channel in
    owed_none (rw (no-places t.args.places t.loop-channel.channel (omega (arith, sixteen (goal.at.At-loop-channel t).Start))) at t.loop-channel.invariant)
