-- `texts::Text::put_field` meets its contract: a space joins the text, and then the number.
use mathlib.Core.Path.{ap, ◌∙◌}
use Rattle.texts.specs.Digits.{joins_number}
use Rattle.texts.proofs.Text.put_field.Goals as goal

pub returns : goal.returns
returns c = c.put_number.ensures ∙ ap (λ t. joins_number t c.args.number) c.put.ensures
