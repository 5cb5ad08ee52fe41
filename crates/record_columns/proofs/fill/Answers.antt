-- `record_columns::fill` meets its contract. The invariant: the numbers of the stored channels that are gone through stand where they belong.
use mathlib.Core.Path.{◌≡◌, sym, ap, ◌∙◌}
use Prim.Native.Nat.{ℕ, ◌+◌, ◌≤◌, ◌<◌}
use native.Mathlib.Omega.{arith}
use lib.ListN.{length}
use Rattle.channels.specs.Channel.{width_of}
use Rattle.channels.specs.declared.Format.TheVariants.{Full}
use Rattle.points.specs.Points.{sample_size, width}
use Rattle.orders.specs.Orders.{size, step, stride}
use Rattle.orders.proofs.OrderLaws.{step-within}
use Rattle.orders.specs.Parts.{AllAt}
use Rattle.record_columns.proofs.Filling.{none-gone, gone-past, gone-next, all-filled, some, place-within, next-within, bytes-there, places-there}
use borrow.Author.Rules.{rules}
use Rattle.record_columns.proofs.fill.Goals as goal
use Rattle.record_columns.proofs.fill.Goals.{then-stored-channel, else-stored-channel, After-sample_size-at, After-width-width, At-loop-channel, Start, Then-stored-channel}

pub loop-channel-init : goal.loop-channel-init
loop-channel-init c = none-gone _ _ _ _ _ _ _ c.requires.1

-- what is known at each turn
module _ (t : At-loop-channel) where
  abbrev start : Start
  start = (goal.at.At-loop-channel t).Start

  abbrev measured : After-width-width
  measured = (goal.at.At-loop-channel t).After-width-width

  sixteen : length start.args.stored ≡ 16
  sixteen = search rules

  wide : measured.width-width.result ≡ width 2 start.args.stored
  wide = measured.width-width.ensures.0

  step_is : t.step-step.result ≡ step start.args.order (size start.args.stored)
  step_is = t.step-step.ensures ∙ ap (step start.args.order) t.size.ensures.0

  stride-is : t.stride-stride.result ≡ stride start.args.order start.args.count
  stride-is = t.stride-stride.ensures

-- a channel that is stored: where its numbers stand, and where they go
module _ (c : Then-stored-channel) where
  abbrev turn : At-loop-channel
  turn = (goal.at.Then-stored-channel c).At-loop-channel

  within : turn.loop-channel.channel < length (start turn).args.stored
  within = omega (arith, sixteen turn)

  abbrev k : ℕ
  k = size (start turn).args.stored

  there : AllAt (λ i. i + sample_size 2 turn.loop-channel.channel ≤ length (start turn).args.bytes.now) (width 2 (start turn).args.stored) (start turn).args.count turn.loop-channel.at
  there = bytes-there _ _ _ _ _ _ _ _ _ _ turn.loop-channel.invariant within c.if-stored-channel.true (start turn).args.order (step_is turn) (stride-is turn) (start turn).requires.0

  free : AllAt (λ i. i < length turn.loop-channel.values) turn.step-step.result (start turn).args.count turn.loop-channel.from
  free = places-there _ _ _ _ _ _ _ _ _ _ turn.loop-channel.invariant within c.if-stored-channel.true (start turn).args.order (step_is turn) (stride-is turn) (start turn).requires.0

  steps : (0 < turn.step-step.result) × (turn.step-step.result ≤ 16)
  steps =
      rw (step_is turn)
      (step-within k (some _ _ _ _ _ _ _ _ _ _ turn.loop-channel.invariant within c.if-stored-channel.true (start turn).args.order (step_is turn) (stride-is turn) (start turn).requires.0) (omega (arith, turn.size.ensures)) (start turn).args.order)

pub fill_channel-requires : goal.fill_channel-requires
fill_channel-requires c =
    let h = (goal.at.fill_channel-requires c).Then-stored-channel in
    let t = turn h in
    ((measured t).width-width.ensures.1, (steps h).0, (steps h).1, rw (wide t) (there h), free h)

-- how many bytes its number has
size_of : {r : ℕ} (channel : ℕ) → (r ≡ sample_size (width_of Full) channel) × (r ≤ 2) → r ≡ sample_size 2 channel
size_of channel h = h.0

size_is : (c : After-sample_size-at) → c.sample_size-at.result ≡ sample_size 2 (turn (goal.at.After-sample_size-at c).Then-stored-channel).loop-channel.channel
size_is c = size_of (turn (goal.at.After-sample_size-at c).Then-stored-channel).loop-channel.channel c.sample_size-at.ensures

pub overflow_add-at : goal.overflow_add-at
overflow_add-at c =
    let h = (goal.at.overflow_add-at c).Then-stored-channel in
    let t = turn h in
    let z = place-within _ _ _ _ _ _ _ _ _ _ t.loop-channel.invariant (within h) h.if-stored-channel.true (start t).args.order (step_is t) (stride-is t) (start t).requires.0 in
    record { fits = omega (arith, z, wide t, (measured t).width-width.ensures.1, size_is c, (start t).well_formed.0.1) }

pub overflow_add-from : goal.overflow_add-from
overflow_add-from c =
    let h = (goal.at.overflow_add-from c).Then-stored-channel in
    let t = turn h in
    let z = next-within _ _ _ _ _ _ _ _ _ _ t.loop-channel.invariant (within h) h.if-stored-channel.true (start t).args.order (step_is t) (stride-is t) (start t).requires.0 in
    record { fits = omega (arith, z, t.size.ensures, t.loop-channel.invariant.many, (start t).requires.1, (start t).well_formed.1) }

pub loop-channel-preserved : goal.loop-channel-preserved
loop-channel-preserved c =
    let t = (goal.at.loop-channel-preserved c).At-loop-channel in
    elim c.if-stored-channel.branch [
      | then-stored-channel w ↦
          let z : w.sample_size-at.result ≡ sample_size 2 t.loop-channel.channel = size_of t.loop-channel.channel w.sample_size-at.ensures in
          rw (w.values-is, w.at-is, w.from-is) (
          rw z
          (gone-next _ _ _ _ _ _ _ _ _ _ t.loop-channel.invariant (omega (arith, sixteen t)) w.if-stored-channel.true (start t).args.order (step_is t) (stride-is t) (start t).requires.0 _ (rw (wide t) at w.fill_channel.ensures)))
      | else-stored-channel w ↦ rw (w.values-is, w.at-is, w.from-is) (gone-past _ _ _ _ _ _ _ _ _ _ t.loop-channel.invariant (omega (arith, sixteen t)) w.if-stored-channel.false)
    ]

pub shape_of-values : goal.shape_of-values
shape_of-values c = let t = (goal.at.shape_of-values c).At-loop-channel in t.loop-channel.invariant.many ∙ sym (start t).requires.1

pub returns : goal.returns
returns c =
    let t = (goal.at.returns c).At-loop-channel in
    all-filled _ _ _ _ _ _ _ _ _ _ t.loop-channel.invariant (omega (arith, sixteen t)) (start t).args.order (step_is t) (stride-is t) (start t).requires.0
