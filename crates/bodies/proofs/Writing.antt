-- What is said of a body that is to be written, by its template's rule.
use Rattle.std.specs.Prelude.{Result, Err, Ok}
use mathlib.Core.Path.{◌≡◌, sym, ap, ◌∙◌}
use mathlib.Core.Bool.{Bool}
use mathlib.Core.List.{List}
use Prim.Native.Nat.{ℕ}
use lib.IntN.{ℤ}
use Rattle.formats.specs.Lent.{Writing, writing}
use Rattle.refusals.specs.declared.Refusal.{Refusal}
use Rattle.templates.specs.declared.Judged as templates
use Rattle.bodies.specs.Reading.{rule_of}
use Rattle.bodies.specs.Writing.{write_ruled, write_by}
use Rattle.bodies.specs.declared.Rule.{Rule}
use Rattle.bodies.specs.declared.Refused.TheVariants as whose
use Rattle.bodies.specs.declared.Refused.{Refused}

module _ (j : templates.Judged) (rule : Rule) (e : rule ≡ rule_of j) (count : ℕ) (numbers : List ℤ) (wanted : Bool) (out : List ℕ) where
  pub write-refused : {refusal : Refusal} → rule.judgement ≡ Err refusal → writing (Err (whose.Template refusal)) out ≡ write_by j count numbers wanted out
  unfolding write_by
  write-refused q = let z = sym (ap (λ r. r.judgement) e) ∙ q in rw z

  pub write-passed : rule.judgement ≡ Ok tt → {w : Writing (Result ℕ Refused)} → w ≡ write_ruled rule.stored rule.limited rule.maximum count numbers wanted out
      → w ≡ write_by j count numbers wanted out
  unfolding write_by
  write-passed q o =
      let z = sym (ap (λ r. r.judgement) e) ∙ q in
      o ∙ ap (λ r. write_ruled r.stored r.limited r.maximum count numbers wanted out) e ∙ rw z
