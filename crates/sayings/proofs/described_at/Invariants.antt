-- `sayings::described_at` says nothing where no word follows, since its loop then has no turn; it ends, since each turn goes on to the next word, which begins behind this one.
use Prim.Native.Nat.{◌≤◌, ◌<◌, ◌-◌}
use mathlib.Core.Path.{◌≡◌}
use lib.ListN.{length}
use Rattle.words.specs.Places.{Blank}
use Rattle.sayings.proofs.described_at.Given as goal

abbrev pub invariant-loop-span : goal.invariant-loop-span
invariant-loop-span l = (l.span.from < l.span.to → l.span.to ≤ length l.line) × (Blank l.line l.at → l.span.to ≤ l.span.from) × (Blank l.line l.at → l.description ≡ l.initial.description)

abbrev pub decreases-loop-span : goal.decreases-loop-span
decreases-loop-span l = length l.line - l.span.from
