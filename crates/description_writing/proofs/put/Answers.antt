-- `description_writing::put` meets its contract: a refusal decides before the room does, and where there is none all numbers fit.
use Rattle.std.specs.Prelude.{Err}
use borrow.Author.Rules.{rules}
use mathlib.Core.Path.{◌≡◌, sym, ◌∙◌}
use Rattle.description_judging.specs.Judging.{judgement_of}
use Rattle.description_judging.proofs.JudgingLaws.{passed-sound}
use Rattle.description_writing.specs.Write.{put_judged, put_if}
use Rattle.description_writing.specs.WriteLaws.{put_refused}
use Rattle.description_writing.proofs.put.Goals as goal
use Rattle.description_writing.proofs.put.Goals.{After-judge}

-- the judgement is the definition's
judged : (m : After-judge) → judgement_of m.args.format m.args.description ≡ m.judge.result
judged m = sym m.judge.ensures

pub returns-in_err-judge : goal.returns-in_err-judge
returns-in_err-judge c =
    let gone : c.from_residual.result ≡ Err c.in_err-judge.field-0.0 = search rules in
    rw gone (sym (put_refused _ _ _ _ (judged (goal.at.returns-in_err-judge c).After-judge ∙ c.in_err-judge.was)))

pub put_where_room-requires : goal.put_where_room-requires
put_where_room-requires c = (passed-sound _ _ (judged (goal.at.put_where_room-requires c).After-judge ∙ c.in_ok-judge.was)).ranges

pub returns : goal.returns
unfolding put_if put_judged
returns c = c.put_where_room.ensures ∙ rw (judged (goal.at.returns c).After-judge ∙ c.in_ok-judge.was)
