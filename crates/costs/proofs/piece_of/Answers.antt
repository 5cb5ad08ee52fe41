-- `costs::piece_of` meets its contract: of no bytes there is no first one.
use mathlib.Core.Path.{◌≡◌, refl}
use mathlib.Core.List.{List, [], ◌∷◌}
use Prim.Native.Nat.{ℕ}
use lib.ListN.{length}
use Rattle.formats.specs.Bytes.{impossible}
use Rattle.costs.specs.Handed.{piece_of}
use borrow.Author.Rules.{rules}
use Rattle.costs.proofs.piece_of.Goals as goal

empty : (part : List ℕ) → length part ≡ 0 → record { length = 0; first = 0 } ≡ piece_of part
unfolding piece_of
empty [] e = refl
empty (x ∷ part) e = impossible (cc)

pub returns-then-length-eq0 : goal.returns-then-length-eq0
returns-then-length-eq0 c = empty _ c.if-length-eq0.true

pub returns : goal.returns
unfolding piece_of
returns c = search rules
