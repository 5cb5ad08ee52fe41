-- `texts::Text::put` meets its contract: the text is full where the byte was its array's last.
use mathlib.Core.Path.{sym}
use native.Mathlib.Omega.{arith}
use Rattle.texts.specs.JoiningLaws.{joins-within, joins-last}
use Rattle.texts.proofs.Text.put.Goals as goal
use Rattle.texts.proofs.Text.put.Goals.{then-self, else-self}

pub returns : goal.returns
returns c = elim c.if-self.branch [
  | then-self w ↦ rw (← c.self.view_is, w.self-is) (sym (joins-last _ _ _ (omega arith)))
  | else-self w ↦ rw (← c.self.view_is, w.self-is) (sym (joins-within _ _ _ (omega arith)))
]
