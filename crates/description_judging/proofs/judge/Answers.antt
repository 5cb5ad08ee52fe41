-- `description_judging::judge` meets its contract: the stages, in the definition's order. Where all is sound no number is named; and where it is not, the numbers are asked behind the mark and tidiness.
use mathlib.Core.Path.{◌≡◌, sym, ◌∙◌}
use mathlib.Core.Bool.{true}
use Rattle.refusals.specs.Stages.{require, or_else, stages, or-else-last}
use Rattle.channels.specs.Channel.{is_same, width_of}
use Rattle.descriptions.specs.Description.{includes_xy, neat, all_fit}
use Rattle.description_judging.specs.Judging.{neat_in, judgement_of}
use Rattle.description_judging.proofs.JudgingLaws.{both, all_pass}
use Rattle.description_judging.proofs.judge.Goals as goal
use Rattle.description_judging.proofs.judge.Goals.{After-is_neat, After-is_sound-sound, Else-not-has_x_and_y, Else-not-is_neat, Else-not-is_same}

pub returns-then-not-has_x_and_y : goal.returns-then-not-has_x_and_y
unfolding judgement_of stages or_else require
returns-then-not-has_x_and_y c = rw (sym c.has_x_and_y.ensures ∙ c.if-not-has_x_and_y.true)

-- the tests, as the definition has them
complete : (c : Else-not-has_x_and_y) → includes_xy c.args.description ≡ true
complete c = sym c.has_x_and_y.ensures ∙ c.if-not-has_x_and_y.false

marked : (c : Else-not-is_same) → let a = c.args in is_same a.description.mark a.format ≡ true
marked c = sym c.is_same.ensures ∙ c.if-not-is_same.false

pub returns-then-not-is_same : goal.returns-then-not-is_same
unfolding judgement_of neat_in stages or_else require
returns-then-not-is_same c = rw (complete (goal.at.returns-then-not-is_same c).Else-not-has_x_and_y, sym c.is_same.ensures ∙ c.if-not-is_same.true)

pub returns-then-sound : goal.returns-then-sound
unfolding judgement_of neat_in stages or_else require
returns-then-sound c =
    let e = (goal.at.returns-then-sound c).Else-not-is_same in
    let m = (goal.at.Else-not-is_same e).After-is_sound-sound in
    let d = m.args.description in
    let w = width_of m.args.format in
    let p = both (neat d) (all_fit w d) (sym m.is_sound-sound.ensures ∙ c.if-sound.true) in
    rw (complete (goal.at.Else-not-is_same e).Else-not-has_x_and_y, marked e, p.0, all_pass w d p.1)

pub returns-then-not-is_neat : goal.returns-then-not-is_neat
unfolding judgement_of neat_in stages or_else require
returns-then-not-is_neat c =
    let t = (goal.at.returns-then-not-is_neat c).After-is_neat in
    rw (complete (goal.at.After-is_neat t).Else-not-has_x_and_y, marked (goal.at.After-is_neat t).Else-not-is_same, sym t.is_neat.ensures ∙ c.if-not-is_neat.true)

-- a neat description, whose numbers are asked
tidied : (c : Else-not-is_neat) → neat c.args.description ≡ true
tidied c = sym c.is_neat.ensures ∙ c.if-not-is_neat.false

pub first_misfit-requires : goal.first_misfit-requires
first_misfit-requires c = rw (tidied c) tt

pub returns : goal.returns
unfolding judgement_of neat_in stages or_else require
returns c =
    let t = (goal.at.returns c).After-is_neat in
    c.first_misfit.ensures ∙ sym (rw (complete (goal.at.After-is_neat t).Else-not-has_x_and_y, marked (goal.at.After-is_neat t).Else-not-is_same, tidied (goal.at.returns c).Else-not-is_neat) (or-else-last _))
