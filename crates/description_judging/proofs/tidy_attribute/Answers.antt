-- `description_judging::tidy_attribute` meets its contract: the bits of a number are zero where it is.
use mathlib.Core.Path.{ap}
use mathlib.Core.Bool.{◌||◌}
use borrow.Author.Rules.{rules}
use Rattle.descriptions.specs.Description.{tidy_attribute}
use Rattle.description_judging.proofs.Judging.{zero_bits}
use Rattle.description_judging.proofs.tidy_attribute.Goals as goal

pub returns : goal.returns
unfolding tidy_attribute
returns c =
    let a = c.args.attribute in
    ap (λ t. a.given || t) (zero_bits a.number (search rules))
