-- `lookups::look_up` meets its contract: the front, its count and the point decide in turn, and each tells the bytes that were looked at.
use Rattle.std.specs.Prelude.{Ok, Err}
use mathlib.Core.Path.{◌≡◌, refl, sym, ◌∙◌}
use Prim.Native.Nat.{◌+◌, ◌*◌, ◌<◌}
use native.Mathlib.Omega.{arith}
use Rattle.formats.specs.Bytes.{Bytes}
use Rattle.formats.specs.Reader.{read_at}
use Rattle.record_fronts.specs.Front.{front}
use Rattle.record_fronts.specs.Fronted.{fronted}
use Rattle.lookups.proofs.LookupLaws.{failed-seen, front-told}
use Rattle.lookups.proofs.Looking.{start_fits, promised, answers-failed, points-within, answers-none, answers-point}
use Rattle.lookups.proofs.look_up.Goals as goal
use Rattle.lookups.proofs.look_up.Goals.{After-front_at, After-width, In-Err, In-Ok}

bytes : (c : After-front_at) → Bytes c.args.bytes.now
bytes c i = omega (arith, c.type_inv.bytes i)

-- no front
failing : (c : In-Err) → fronted (read_at front c.args.bytes.now 0) ≡ Err c.in-Err.failure
failing c = sym c.front_at.ensures ∙ c.in-Err.is

pub looked_from-requires : goal.looked_from-requires
looked_from-requires c = (failed-seen _ _ _ _ (front-told _ (failing (goal.at.looked_from-requires c).In-Err))).1

pub returns-in-Err : goal.returns-in-Err
returns-in-Err c =
    promised _ _ (bytes (goal.at.returns-in-Err c).After-front_at) (answers-failed _ _ (failing (goal.at.returns-in-Err c).In-Err) c.looked_from.ensures c.refused.ensures)

-- a front
there : (c : In-Ok) → fronted (read_at front c.args.bytes.now 0) ≡ Ok c.in-Ok.front
there c = sym c.front_at.ensures ∙ c.in-Ok.is

pub returns-then-front-index : goal.returns-then-front-index
returns-then-front-index c =
    promised _ _ (bytes (goal.at.returns-then-front-index c).After-front_at) (answers-none _ _ (there (goal.at.returns-then-front-index c).In-Ok) c.if-front-index.true)

-- the point's place
fits : (c : After-width) → c.in-Ok.front.points + c.args.index * c.width.result < 18446744073709551616
fits c =
    start_fits
    c.if-front-index.false
    (omega arith)
    c.width.ensures.1
    (points-within _ (there (goal.at.After-width c).In-Ok))
    (omega (arith, c.well_formed.0.1))

pub overflow_mul-start : goal.overflow_mul-start
overflow_mul-start c = record { fits = omega (arith, fits (goal.at.overflow_mul-start c).After-width) }

pub overflow_add-start : goal.overflow_add-start
overflow_add-start c = record { fits = omega (arith, fits (goal.at.overflow_add-start c).After-width) }

pub look_at-requires : goal.look_at-requires
look_at-requires c = points-within _ (there (goal.at.look_at-requires c).In-Ok)

pub returns-else-front-index : goal.returns-else-front-index
returns-else-front-index c =
    promised _ _ (bytes (goal.at.returns-else-front-index c).After-front_at)
    (answers-point _ _ (there (goal.at.returns-else-front-index c).In-Ok) c.if-front-index.false refl c.width.ensures.0 _ c.look_at.ensures.0 c.look_at.ensures.1)
