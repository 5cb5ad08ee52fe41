-- `templates::limited_from` meets its contract: the end, another tag, or the field 82 by where it ends.
use mathlib.Core.Path.{◌≡◌, ap, sym, ◌∙◌}
use mathlib.Core.Bool.{false}
use Prim.Native.Nat.{◌+◌}
use native.Mathlib.Omega.{arith}
use lib.ListN.{drop}
use Rattle.descriptions.specs.Read.{nothing}
use Rattle.templates.specs.Reading.{with_content, limited_by, limited_from, limit_of}
use Rattle.templates.proofs.Parts.{end-within, content-there, content-missing, limited-none, limited-other, limited-field}
use Rattle.channels.specs.declared.Format.TheVariants.{Compact}
use Rattle.templates.proofs.limited_from.Goals as goal
use Rattle.templates.proofs.limited_from.Goals.{Else-s-at-2}

module _ (c : Else-s-at-2) where
  -- the field 82
  field : let a = c.args in
      limited_from false (nothing Compact) (drop a.at a.s.now) ≡ with_content (drop (a.at + 1) a.s.now) (limited_by false (nothing Compact))
  field = limited-field _ _ c.args.s.now c.args.at (omega arith) c.if-s-at-2.false

pub returns-then-s-at : goal.returns-then-s-at
returns-then-s-at c = c.up_to.ensures ∙ ap limit_of (sym (limited-none _ _ _ _ c.if-s-at.true))

pub returns-then-s-at-2 : goal.returns-then-s-at-2
returns-then-s-at-2 c =
    let a = c.args in
    c.no_limit.ensures ∙ ap limit_of (sym (limited-other _ _ a.s.now a.at (omega arith) c.if-s-at-2.true))

pub limited_by-requires : goal.limited_by-requires
limited_by-requires c =
    let a = c.args in
    let w = end-within a.s.now (a.at + 1) (sym c.end_of.ensures ∙ c.in-Some.is) in
    (omega (arith, w.0), w.1)

pub returns-in-Some : goal.returns-in-Some
returns-in-Some c =
    let a = c.args in
    let z : a.at + 1 + 1 ≡ a.at + 2 = omega arith in
    c.limited_by.ensures
    ∙ ap limit_of (sym (field (goal.at.returns-in-Some c).Else-s-at-2 ∙ rw z at (content-there a.s.now (a.at + 1) (limited_by false (nothing Compact)) (sym c.end_of.ensures ∙ c.in-Some.is))))

pub returns-in-None : goal.returns-in-None
returns-in-None c =
    let a = c.args in
    c.no_limit-in-None.ensures
    ∙ ap limit_of (sym (field (goal.at.returns-in-None c).Else-s-at-2 ∙ content-missing a.s.now (a.at + 1) (limited_by false (nothing Compact)) (sym c.end_of.ensures ∙ c.in-None.is)))
