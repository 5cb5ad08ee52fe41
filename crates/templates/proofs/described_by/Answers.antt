-- `templates::described_by` meets its contract: by how reading the description ended.
use Rattle.std.specs.Prelude.{Err}
use mathlib.Core.Path.{◌≡◌, ap, sym, ◌∙◌}
use mathlib.Core.Bool.{true}
use Prim.Native.Nat.{◌+◌, ◌-◌, ◌<◌}
use native.Mathlib.Omega.{arith}
use borrow.Author.Rules.{rules}
use borrow.Author.Tests.{eq-eqb, ne_eqb}
use lib.ListN.{length, take, drop}
use Rattle.formats.specs.declared.Failure.TheVariants.{Short, Bad}
use Rattle.templates.specs.Reading.{described_by, refused, fault_of, filled}
use Rattle.templates.proofs.Parts.{free-from, description-done, description-failed, described-whole, described-part, described-short, described-bad}
use Rattle.templates.proofs.described_by.Goals as goal
use Rattle.templates.proofs.described_by.Goals.{In-Err-Bad}

-- a byte of it was refused
broken : (c : In-Err-Bad) → let a = c.args in
    (described_by (take (a.end - 4) (drop 4 a.s.now)) (drop a.end a.s.now) ≡ refused (fault_of c.in-Err-Bad.number (4 + c.in-Err-Bad.place)))
    × (4 + c.in-Err-Bad.place < length a.s.now)
broken c =
    let a = c.args in
    let why : c.read.result ≡ Err (Bad c.in-Err-Bad.number c.in-Err-Bad.place) = search rules in
    described-bad a.s.now a.end (search rules) (search rules) (description-failed _ (sym c.read.ensures ∙ why))

pub returns-then-described-end : goal.returns-then-described-end
returns-then-described-end c =
    let a = c.args in
    c.refused.ensures ∙ sym (described-part a.s.now a.end (search rules) (search rules) (description-done _ (sym c.read.ensures ∙ c.in-Ok.is)) c.if-described-end.true)

pub overflow_add-place : goal.overflow_add-place
overflow_add-place c = omega (arith, (broken (goal.at.overflow_add-place c).In-Err-Bad).1)

pub returns-then-number-eq4 : goal.returns-then-number-eq4
returns-then-number-eq4 c = c.refused-then-number-eq4.ensures ∙ sym ((broken (goal.at.returns-then-number-eq4 c).In-Err-Bad).0 ∙ rw (eq-eqb _ 4 c.if-number-eq4.true))

pub overflow_add-place-in-Err-Bad : goal.overflow_add-place-in-Err-Bad
overflow_add-place-in-Err-Bad c = omega (arith, (broken (goal.at.overflow_add-place-in-Err-Bad c).In-Err-Bad).1)

pub returns-else-described-end : goal.returns-else-described-end
returns-else-described-end c =
    let a = c.args in
    let d = c.in-Ok.described.description in
    c.fill.ensures
    ∙ ap (filled true d) c.limited_from.ensures
    ∙ free-from (drop a.end a.s.now) true d
    ∙ sym (described-whole a.s.now a.end (search rules) (search rules) (description-done _ (sym c.read.ensures ∙ c.in-Ok.is)) c.if-described-end.false)

pub returns-in-Err-Short : goal.returns-in-Err-Short
returns-in-Err-Short c =
    let a = c.args in
    let why : c.read.result ≡ Err Short = search rules in
    c.refused-in-Err-Short.ensures ∙ sym (described-short a.s.now a.end (search rules) (search rules) (description-failed _ (sym c.read.ensures ∙ why)))

pub returns-else-number-eq4 : goal.returns-else-number-eq4
returns-else-number-eq4 c = c.refused-in-Err-Bad.ensures ∙ sym ((broken (goal.at.returns-else-number-eq4 c).In-Err-Bad).0 ∙ rw (ne_eqb _ 4 c.if-number-eq4.false))
