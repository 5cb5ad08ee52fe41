-- `sayings::description_at` says nothing where no word follows, since its loop then has no turn; it ends, since each turn goes on to the next word, which begins behind this one.
use Prim.Native.Nat.{◌≤◌, ◌<◌, ◌-◌}
use mathlib.Core.Path.{◌≡◌}
use lib.ListN.{length}
use Rattle.words.specs.Places.{Blank}
use Rattle.sayings.proofs.description_at.Given as goal

abbrev pub invariant-loop-place : goal.invariant-loop-place
invariant-loop-place l = (l.place.from < l.place.to → l.place.to ≤ length l.line) × (Blank l.line l.at → l.place.to ≤ l.place.from) × (Blank l.line l.at → l.said ≡ l.initial.said)

abbrev pub decreases-loop-place : goal.decreases-loop-place
decreases-loop-place l = length l.line - l.place.from
