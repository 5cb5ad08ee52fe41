-- `record_points::point` meets its contract: points of one width stand at even distances behind the front.
use Rattle.std.specs.Prelude.{Ok}
use mathlib.Core.Path.{◌≡◌, sym, ◌∙◌}
use native.Mathlib.Omega.{arith}
use Rattle.formats.specs.Reader.{read_at}
use Rattle.record_fronts.specs.Front as meant
use Rattle.record_fronts.specs.Fronted.{fronted}
use Rattle.record_layouts.specs.Layout.{layout_at}
use Rattle.record_layouts.specs.LayoutLaws.{front-layout, unfronted-layout}
use Rattle.record_points.proofs.Pointing.{places-failed, places-none, places-there, points-start, point-within}
use Rattle.record_points.proofs.point.Goals as goal
use Rattle.record_points.proofs.point.Goals.{In-Ok-layout_behind}

pub returns-in_default : goal.returns-in_default
returns-in_default c = places-failed _ (unfronted-layout _ _ (sym c.front_at.ensures ∙ c.in_default.is)) _

pub returns-in_default-layout_behind : goal.returns-in_default-layout_behind
returns-in_default-layout_behind c = places-failed _ (front-layout _ _ (sym c.front_at.ensures ∙ c.in-Ok.is) c.layout_behind.ensures ∙ c.in_default-layout_behind.is) _

-- the front and the layout are those of the bytes
module _ (b : In-Ok-layout_behind) where
  there : fronted (read_at meant.front b.args.bytes.now 0) ≡ Ok b.in-Ok.front
  there = sym b.front_at.ensures ∙ b.in-Ok.is

  laid : layout_at b.args.bytes.now 0 ≡ Ok b.in-Ok-layout_behind.layout
  laid = front-layout _ _ there b.layout_behind.ensures ∙ b.in-Ok-layout_behind.is

pub returns-then-count-index : goal.returns-then-count-index
returns-then-count-index c = places-none _ (laid (goal.at.returns-then-count-index c).In-Ok-layout_behind) _ c.if-count-index.true

pub overflow_sub-start : goal.overflow_sub-start
overflow_sub-start c = let b = (goal.at.overflow_sub-start c).In-Ok-layout_behind in points-start _ (laid b) (there b) _ c.if-count-index.false

pub overflow_mul-start : goal.overflow_mul-start
overflow_mul-start c =
    let b = (goal.at.overflow_mul-start c).In-Ok-layout_behind in
    let z = point-within _ (laid b) (there b) _ c.if-count-index.false in
    record { fits = omega (arith, z, c.well_formed.0.0) }

pub overflow_add-start : goal.overflow_add-start
overflow_add-start c =
    let b = (goal.at.overflow_add-start c).In-Ok-layout_behind in
    let z = point-within _ (laid b) (there b) _ c.if-count-index.false in
    record { fits = omega (arith, z, c.well_formed.0.0) }

pub returns : goal.returns
returns c =
    let b = (goal.at.returns c).In-Ok-layout_behind in
    c.places.ensures ∙ places-there _ (laid b) (there b) _ c.if-count-index.false
