-- `turning::turn` meets its contract: the slice's own verdict decides, and then what becomes of the record that it is.
use Rattle.std.specs.Prelude.{Err}
use borrow.Author.Rules.{rules}
use mathlib.Core.Path.{◌≡◌, sym, ap, ◌∙◌}
use lib.ListN.{length}
use Rattle.turning.specs.Turning.{turn_of}
use Rattle.turning.proofs.DemandLaws.{by-record}
use Rattle.turning.proofs.Whole.{own-refused, Filled, filled}
use Rattle.turning.proofs.turn.Goals as goal
use Rattle.turning.proofs.turn.Goals.{In_ok-judged, Start}

pub returns-in_err-judged : goal.returns-in_err-judged
returns-in_err-judged c =
    let a = c.args in
    let gone : c.from_residual.result ≡ Err c.in_err-judged.field-0.0 = search rules in
    rw gone (own-refused a.whole.now a.template.now a.body.now c.judge_whole-judged.ensures c.in_err-judged.was)

-- the record that the slice is
module _ (v : In_ok-judged) where
  abbrev start : Start
  start = (goal.at.In_ok-judged v).Start

  found : Filled start.args.whole.now v.judge_whole-judged.result.description
  found = filled start.args.whole.now v.judge_whole-judged.ensures v.in_ok-judged.was

pub turn_whole-requires : goal.turn_whole-requires
turn_whole-requires c = let f = found (goal.at.turn_whole-requires c).In_ok-judged in (f.value, f.read, f.said)

pub returns : goal.returns
returns c =
    let a = c.args in
    let f = found (goal.at.returns c).In_ok-judged in
    c.turn_whole.ensures f.value f.read f.said
    ∙ sym (ap (λ x. turn_of (length a.whole.now) x a.template.now a.body.now) f.read ∙ by-record (length a.whole.now) f.value a.template.now a.body.now)
