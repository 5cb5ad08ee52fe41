-- `lookups::point` meets its contract: the point is read at its own place.
use Rattle.std.specs.Prelude.{Ok}
use mathlib.Core.Path.{◌≡◌, sym, ◌∙◌}
use Prim.Native.Nat.{◌+◌, ◌*◌, ◌<◌}
use native.Mathlib.Omega.{arith}
use Rattle.formats.specs.Reader.{read_at}
use Rattle.record_fronts.specs.Front.{front}
use Rattle.record_fronts.specs.Fronted.{fronted}
use Rattle.lookups.proofs.Looking.{start_fits, points-within, places-failed, places-none, places-there}
use Rattle.lookups.proofs.point.Goals as goal
use Rattle.lookups.proofs.point.Goals.{After-width, In-Ok}

pub returns-in_default : goal.returns-in_default
returns-in_default c = places-failed _ _ (sym c.front_at.ensures ∙ c.in_default.is)

-- the front is that of the bytes
there : (c : In-Ok) → fronted (read_at front c.args.bytes.now 0) ≡ Ok c.in-Ok.front
there c = sym c.front_at.ensures ∙ c.in-Ok.is

-- the point's place
fits : (c : After-width) → c.in-Ok.front.points + c.args.index * c.width.result < 18446744073709551616
fits c = start_fits c.if-index-front.true (omega arith) c.width.ensures.1 (points-within _ (there (goal.at.After-width c).In-Ok)) (omega (arith, c.well_formed.0.1))

pub overflow_mul-start : goal.overflow_mul-start
overflow_mul-start c = record { fits = omega (arith, fits (goal.at.overflow_mul-start c).After-width) }

pub overflow_add-start : goal.overflow_add-start
overflow_add-start c = record { fits = omega (arith, fits (goal.at.overflow_add-start c).After-width) }

pub returns-then-index-front : goal.returns-then-index-front
returns-then-index-front c = c.places.ensures ∙ places-there _ _ (there (goal.at.returns-then-index-front c).In-Ok) c.if-index-front.true c.width.ensures.0

pub returns-else-index-front : goal.returns-else-index-front
returns-else-index-front c = places-none _ _ (there (goal.at.returns-else-index-front c).In-Ok) c.if-index-front.false
