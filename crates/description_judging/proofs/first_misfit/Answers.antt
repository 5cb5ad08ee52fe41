-- `description_judging::first_misfit` meets its contract. The invariant: of all numbers is told what is told of those from here on, and the channels from here on are tidy.
use Rattle.std.specs.Prelude.{Result, Err, ⊤}
use mathlib.Core.Path.{◌≡◌, sym, ap, ◌∙◌}
use Prim.Native.Nat.{◌+◌, ◌<◌}
use native.Mathlib.Omega.{arith}
use borrow.Author.Rules.{rules}
use lib.Dec.{T}
use lib.ListN.{length, drop, get_or}
use Rattle.refusals.specs.Stages.{or_else}
use Rattle.refusals.specs.Ranges.{first_misfit}
use Rattle.channels.specs.Channel.{width_of}
use Rattle.channels.specs.Descriptors.{absent}
use Rattle.descriptions.specs.Description.{tidy_descriptor, neat, every}
use Rattle.description_judging.specs.Judging.{numbers_of, numbers_from, numbers}
use Rattle.description_judging.proofs.Judging.{every_holds, numbers-next, numbers-none}
use Rattle.description_judging.proofs.first_misfit.Goals as goal
use Rattle.description_judging.proofs.first_misfit.Goals.{After-judge_numbers, At-loop-channel, In-loop-channel, Start}
use Rattle.refusals.specs.declared.Refusal.{Refusal}

sixteen : (s : Start) → length s.args.description.channels ≡ 16
sixteen s = s.well_formed.0.1.1.0.1.0.1

pub loop-channel-init : goal.loop-channel-init
unfolding neat numbers
loop-channel-init c = search rules

-- this channel, and what is told of all by what is told of it
module _ (c : In-loop-channel) where
  abbrev start : Start
  start = (goal.at.In-loop-channel c).Start

  inside : c.loop-channel.channel < length start.args.description.channels
  inside = omega (arith, sixteen start)

  tidied : T (tidy_descriptor (get_or start.args.description.channels c.loop-channel.channel absent)) × T (every (λ channel. tidy_descriptor) (c.loop-channel.channel + 1) (drop (c.loop-channel.channel + 1) start.args.description.channels))
  tidied = every_holds (λ channel. tidy_descriptor) start.args.description.channels c.loop-channel.channel inside c.loop-channel.invariant.0

  abbrev later : Result ⊤ Refusal
  later = first_misfit (numbers_from (width_of start.args.format) (c.loop-channel.channel + 1) (drop (c.loop-channel.channel + 1) start.args.description.channels))

  judged : {f : Result ⊤ Refusal} → first_misfit (numbers_of (width_of start.args.format) c.loop-channel.channel (get_or start.args.description.channels c.loop-channel.channel absent)) ≡ f
      → first_misfit (numbers (width_of start.args.format) start.args.description) ≡ or_else f later
  judged e = c.loop-channel.invariant.1 ∙ numbers-next (width_of start.args.format) start.args.description.channels c.loop-channel.channel inside ∙ ap (λ f. or_else f later) e

pub judge_numbers-requires : goal.judge_numbers-requires
judge_numbers-requires c = (tidied (goal.at.judge_numbers-requires c).In-loop-channel).0

pub returns-in_err-judge_numbers : goal.returns-in_err-judge_numbers
unfolding or_else
returns-in_err-judge_numbers c =
    let x = (goal.at.returns-in_err-judge_numbers c).After-judge_numbers in
    let gone : c.from_residual.result ≡ Err c.in_err-judge_numbers.field-0.0 = search rules in
    gone ∙ sym (judged (goal.at.After-judge_numbers x).In-loop-channel (sym x.judge_numbers.ensures ∙ c.in_err-judge_numbers.was))

pub loop-channel-preserved : goal.loop-channel-preserved
unfolding or_else
loop-channel-preserved c =
    let x = (goal.at.loop-channel-preserved c).After-judge_numbers in
    ((tidied (goal.at.After-judge_numbers x).In-loop-channel).1, judged (goal.at.After-judge_numbers x).In-loop-channel (sym x.judge_numbers.ensures ∙ c.in_ok-judge_numbers.was))

pub returns : goal.returns
returns c =
    let l = (goal.at.returns c).At-loop-channel in
    sym (l.loop-channel.invariant.1 ∙ numbers-none (width_of l.args.format) l.args.description.channels l.loop-channel.channel (omega (arith, sixteen (goal.at.At-loop-channel l).Start)))
