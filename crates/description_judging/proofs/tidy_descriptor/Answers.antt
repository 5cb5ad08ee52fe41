-- `description_judging::tidy_descriptor` meets its contract: it is the definition, by what each call answers.
use Rattle.descriptions.specs.Description.{tidy_descriptor}
use Rattle.description_judging.proofs.tidy_descriptor.Goals as goal
use Rattle.description_judging.proofs.tidy_descriptor.Goals.{After-tidy_attribute-3}

pub returns : goal.returns
unfolding tidy_descriptor
returns c =
    let e = (goal.at.returns c).After-tidy_attribute-3 in
    rw (
      e.has_no_flag.ensures,
      e.tidy_attribute.ensures,
      c.tidy_attribute-2.ensures,
      c.tidy_attribute-3.ensures,
      c.tidy_attribute-4.ensures,
      c.tidy_attribute-5.ensures,
    )
