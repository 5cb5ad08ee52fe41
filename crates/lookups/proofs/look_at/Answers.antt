-- `lookups::look_at` meets its contract: one point is judged as reading it ends, and how it ended tells the bytes that were looked at.
use Rattle.std.specs.Prelude.{Err}
use mathlib.Core.Path.{◌≡◌, sym, ap, ◌∙◌}
use Prim.Native.Nat.{◌+◌}
use native.Mathlib.Omega.{arith}
use lib.ListN.{length}
use Rattle.formats.specs.Reader.{read_at}
use Rattle.formats.specs.Sight.{seen}
use Rattle.formats.proofs.SightLaws.{seen-within}
use Rattle.formats.specs.Told.{told, once-told}
use Rattle.points.specs.Points.{point}
use Rattle.lookups.proofs.LookupLaws.{point-refused, point-there, failed-seen}
use Rattle.lookups.proofs.look_at.Goals as goal
use Rattle.lookups.proofs.look_at.Goals.{After-judge-outcome, After-looked_from, In-Err}

-- how the point is judged is how reading it ends
judged : (c : After-judge-outcome) → c.judge-outcome.result ≡ told (read_at (point 2 c.args.stored) c.args.bytes.now c.args.start)
judged c = c.judge-outcome.ensures ∙ once-told (point 2 c.args.stored) c.args.bytes.now c.args.start

-- where it failed
failing : (c : In-Err) → told (read_at (point 2 c.args.stored) c.args.bytes.now c.args.start) ≡ Err c.in-Err.failure
failing c = sym (judged (goal.at.In-Err c).After-judge-outcome) ∙ c.in-Err.is

pub looked_from-requires : goal.looked_from-requires
looked_from-requires c = (failed-seen _ _ _ _ (failing (goal.at.looked_from-requires c).In-Err)).1

-- the bytes of the point that were looked at
looked-is : (c : After-looked_from) → c.looked_from.result ≡ length (seen (point 2 c.args.stored) c.args.bytes.now c.args.start)
looked-is c = c.looked_from.ensures ∙ sym (failed-seen _ _ _ _ (failing (goal.at.After-looked_from c).In-Err)).0

pub overflow_add-looked : goal.overflow_add-looked
overflow_add-looked c =
    record { fits = omega (arith, looked-is (goal.at.overflow_add-looked c).After-looked_from, seen-within (point 2 c.args.stored) c.args.bytes.now c.args.start, c.requires, c.well_formed.0.0) }

pub returns-in-Err : goal.returns-in-Err
returns-in-Err c = (
  ap (λ r. r.pointed) c.refused.ensures ∙ sym (point-refused _ _ _ _ (failing (goal.at.returns-in-Err c).In-Err)),
  ap (λ r. r.looked) c.refused.ensures ∙ ap (λ n. c.args.looked + n) (looked-is (goal.at.returns-in-Err c).After-looked_from),
)

pub returns : goal.returns
returns c =
    let t = point-there _ _ _ (sym (judged (goal.at.returns c).After-judge-outcome) ∙ c.in_default.is) in
    (sym t.0, ap (λ n. c.args.looked + n) (c.width.ensures.0 ∙ sym t.1))
