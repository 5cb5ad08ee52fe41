-- `templates::put_head` meets its contract: two bytes, one behind the other.
use mathlib.Core.Path.{refl}
use native.Mathlib.Omega.{arith}
use lib.ListN.{length-set}
use Rattle.formats.specs.Put.{puts}
use Rattle.template_writing.proofs.put_head.Goals as goal

pub bounds-out-at-2 : goal.bounds-out-at-2
bounds-out-at-2 c = simp length-set (omega (arith, c.requires.1.enough))

pub returns : goal.returns
unfolding puts
returns c = record { place = refl; bytes = refl }
