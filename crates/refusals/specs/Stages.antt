-- Stages of judging, one behind the other: the first that refuses decides.
use Rattle.std.specs.Prelude.{◌≡◌, refl, Bool, true, false, List, [], ◌∷◌, Result, Ok, Err, ⊤}
use Rattle.formats.specs.Bytes.{impossible}
use Rattle.formats.specs.Writes.{All}
use Rattle.refusals.specs.Table.{in_compact}
use Rattle.refusals.specs.declared.Refusal.{Refusal}

-- a test that has to hold, or the refusal
unfoldable pub require : Bool → Refusal → Result ⊤ Refusal
require true refusal = Ok tt
require false refusal = Err refusal

-- a stage, and where it passes another
unfoldable pub or_else : Result ⊤ Refusal → Result ⊤ Refusal → Result ⊤ Refusal
or_else (Ok _) next = next
or_else (Err refusal) next = Err refusal

unfoldable pub stages : List (Result ⊤ Refusal) → Result ⊤ Refusal
stages [] = Ok tt
stages (stage ∷ l) = or_else stage (stages l)

-- a stage that says whether something fits the compact format: 21 in place of 12
unfoldable pub compactly : Result ⊤ Refusal → Result ⊤ Refusal
compactly (Ok _) = Ok tt
compactly (Err refusal) = Err (in_compact refusal)

-- ---- Laws

pub require-passed : (t : Bool) (refusal : Refusal) → require t refusal ≡ Ok tt → t ≡ true
unfolding require
require-passed true refusal e = refl
require-passed false refusal e = impossible (cc)

pub compactly-passed : (j : Result ⊤ Refusal) → compactly j ≡ Ok tt → j ≡ Ok tt
unfolding compactly
compactly-passed (Ok _) e = refl
compactly-passed (Err refusal) e = impossible (cc)

pub or-else-passed : (a b : Result ⊤ Refusal) → or_else a b ≡ Ok tt → (a ≡ Ok tt) × (b ≡ Ok tt)
unfolding or_else
or-else-passed (Ok _) b e = (refl, e)
or-else-passed (Err refusal) b e = impossible (cc)

pub or-else-assoc : (a b c : Result ⊤ Refusal) → or_else (or_else a b) c ≡ or_else a (or_else b c)
unfolding or_else
or-else-assoc (Ok _) b c = refl
or-else-assoc (Err refusal) b c = refl

-- a stage behind which nothing is asked
pub or-else-last : (a : Result ⊤ Refusal) → or_else a (Ok tt) ≡ a
unfolding or_else
or-else-last (Ok _) = refl
or-else-last (Err refusal) = refl

-- all is passed exactly where each stage is
pub stages-passed : (l : List (Result ⊤ Refusal)) → stages l ≡ Ok tt → All (λ stage. stage ≡ Ok tt) l
unfolding stages
stages-passed [] e = tt
stages-passed (stage ∷ l) e = let x = or-else-passed stage (stages l) e in (x.0, stages-passed l x.1)
