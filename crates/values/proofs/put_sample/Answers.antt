-- `values::put_sample` meets its contract: what is stored for the value is put into the bytes that it has.
use mathlib.Core.Path.{◌≡◌, sym, ap, ◌∙◌}
use Prim.Native.Nat.{ℕ, ◌+◌, ◌-◌, ◌≤◌}
use native.Mathlib.Omega.{arith}
use lib.ListN.{length, take, drop}
use mir.Syntax.{w32}
use mir.ValLaws.{to_z-of_z}
use Rattle.formats.specs.Number.{digits, length_digits}
use Rattle.channels.specs.Channel.{width_of}
use Rattle.stored_numbers.specs.Numbers.{put_number}
use Rattle.stored_numbers.specs.NumberLaws.{part-laid}
use Rattle.points.specs.Points.{sample_size}
use Rattle.values.specs.Values.{stored_sample, number_in, sample_bytes}
use Rattle.values.proofs.put_sample.Goals as goal
use Rattle.values.proofs.put_sample.Goals.{After-number_in-number, After-put_number, After-width, Start}

-- the number that is put is what is stored for the value, and it has the bytes of a sample
module _ (c : After-width) where
  abbrev found : After-number_in-number
  found = (goal.at.After-width c).After-number_in-number

  abbrev start : Start
  start = (goal.at.After-number_in-number found).Start

  abbrev size : ℕ
  size = sample_size (width_of start.args.format) start.args.channel

  sized : c.width.result ≡ size
  sized = c.width.ensures.0 ∙ c.sample_format-narrow.ensures

  stored : found.stored_sample.result ≡ stored_sample (width_of start.args.format) start.args.channel start.args.value
  stored = found.stored_sample.ensures ∙ rw (to_z-of_z w32 start.args.value start.ranges.value)

  number : found.number_in-number.result ≡ number_in (stored_sample (width_of start.args.format) start.args.channel start.args.value)
  number = found.number_in-number.ensures ∙ ap number_in stored

  bytes : sample_bytes (width_of start.args.format) start.args.channel start.args.value ≡ digits size found.number_in-number.result
  unfolding sample_bytes
  bytes = ap (digits size) (sym number)

  room : start.args.at + size ≤ length start.args.out.now
  room = omega (arith, start.requires.enough, ap length bytes, length_digits size found.number_in-number.result)

pub overflow_add-end : goal.overflow_add-end
overflow_add-end c = omega (arith, room c, sized c)

pub slice_bounds-put_number-end : goal.slice_bounds-put_number-end
slice_bounds-put_number-end c = omega (arith, room c, sized c)

pub returns : goal.returns
returns c =
    let p = (goal.at.returns c).After-put_number in
    let w = (goal.at.After-put_number p).After-width in
    let a = (start w).args in
    let f = w.sample_format-narrow.ensures in
    rw (bytes w)
    (part-laid _ a.out.now a.at (room w) w.width.result (sized w) (found w).number_in-number.result
    (p.put_number.ensures ∙ ap (λ k. put_number k (found w).number_in-number.result (take (a.at + w.width.result - a.at) (drop a.at a.out.now)) 0) f))
