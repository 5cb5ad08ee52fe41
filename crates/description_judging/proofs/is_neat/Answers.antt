-- `description_judging::is_neat` meets its contract: what is asked of all is asked of each.
use mathlib.Core.Path.{◌≡◌, refl, ap, ◌∙◌}
use mathlib.Core.Bool.{Bool, ◌&&◌}
use mathlib.Core.List.{List, [], ◌∷◌}
use Prim.Native.Nat.{ℕ, suc}
use borrow.Author.Rules.{rules}
use Rattle.std.specs.List.{list_all}
use Rattle.std.proofs.lemmas.Iterator.{YieldsList-from_slice}
use Rattle.std.proofs.lemmas.Iterator.Search.{all_from_yields_List}
use Rattle.channels.specs.declared.Descriptor.{Descriptor}
use Rattle.descriptions.specs.Description.{tidy_descriptor, neat, every}
use Rattle.description_judging.proofs.is_neat.Goals as goal

all_every : (p : Descriptor → Bool) (i : ℕ) (ds : List Descriptor) → list_all p ds ≡ every (λ channel. p) i ds
unfolding every
all_every p i [] = refl
all_every p i (d ∷ ds) = ap (λ t. p d && t) (all_every p (suc i) ds)

pub returns : goal.returns
unfolding neat
returns c =
    let ds = c.args.description.channels in
    let asked : c.all.result ≡ list_all tidy_descriptor ds = all_from_yields_List tidy_descriptor _ _ _ c.all.ensures.ran (YieldsList-from_slice ds (cc)) (λ x b q k. (search rules, search rules)) in
    asked ∙ all_every tidy_descriptor 0 ds
