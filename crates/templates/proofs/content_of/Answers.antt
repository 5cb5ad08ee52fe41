-- `templates::content_of` meets its contract: the field 81 by where it ends, or what may follow it.
use mathlib.Core.Path.{◌≡◌, ap, sym, ◌∙◌}
use mathlib.Core.Bool.{false}
use native.Mathlib.Omega.{arith}
use lib.ListN.{drop}
use Rattle.descriptions.specs.Read.{nothing}
use Rattle.templates.specs.Reading.{with_content, described_by, content_of, filled}
use Rattle.templates.proofs.Parts.{free-from, end-within, content-there, content-missing, content-none, content-other, content-field}
use Rattle.channels.specs.declared.Format.TheVariants.{Compact}
use Rattle.templates.proofs.content_of.Goals as goal
use Rattle.templates.proofs.content_of.Goals.{Else-s}

module _ (c : Else-s) where
  -- the field 81
  field : content_of (drop 2 c.args.s.now) ≡ with_content (drop 3 c.args.s.now) described_by
  field = content-field c.args.s.now (omega arith) c.if-s.false

pub returns-then-s-le2 : goal.returns-then-s-le2
returns-then-s-le2 c =
    let s = c.args.s.now in
    c.fill.ensures
    ∙ ap (filled false c.nothing.result) c.limited_from.ensures
    ∙ rw c.nothing.ensures (free-from (drop 2 s) false (nothing Compact))
    ∙ sym (content-none s c.if-s-le2.true)

pub returns-then-s : goal.returns-then-s
returns-then-s c =
    let s = c.args.s.now in
    c.fill-then-s.ensures
    ∙ ap (filled false c.nothing-then-s.result) c.limited_from-then-s.ensures
    ∙ rw c.nothing-then-s.ensures (free-from (drop 2 s) false (nothing Compact))
    ∙ sym (content-other s (omega arith) c.if-s.true)

pub described_by-requires : goal.described_by-requires
described_by-requires c =
    let w = end-within c.args.s.now 3 (sym c.end_of.ensures ∙ c.in-Some.is) in
    (omega (arith, w.0), w.1)

pub returns-in-Some : goal.returns-in-Some
returns-in-Some c =
    c.described_by.ensures ∙ sym (field (goal.at.returns-in-Some c).Else-s ∙ content-there c.args.s.now 3 described_by (sym c.end_of.ensures ∙ c.in-Some.is))

pub returns-in-None : goal.returns-in-None
returns-in-None c =
    c.refused.ensures ∙ sym (field (goal.at.returns-in-None c).Else-s ∙ content-missing c.args.s.now 3 described_by (sym c.end_of.ensures ∙ c.in-None.is))
