-- `templates::read` meets its contract: the tag, the length, and the slice's own length, each before the next.
use mathlib.Core.Path.{◌≡◌, sym, ◌∙◌}
use Prim.Native.Nat.{◌+◌, ◌-◌}
use native.Mathlib.Omega.{arith}
use borrow.Author.Tests.{lt-ltb, le-ltb, le-leb, lt-leb}
use lib.Dec.{ltb, leb}
use lib.ListN.{length, drop, get_or}
use Rattle.refusals.specs.declared.Refusal.TheVariants.{Short, Length, LeftOver}
use Rattle.templates.specs.Reading.{require, content_of, template_of}
use Rattle.templates.proofs.Parts.{template-none, template-other, template-tag, template-field}
use Rattle.templates.proofs.read.Goals as goal
use Rattle.templates.proofs.read.Goals.{Else-bytes-eq1, Start}

module _ (c : Else-bytes-eq1) where
  abbrev start : Start
  start = (goal.at.Else-bytes-eq1 c).Start

  -- the tag and the length byte are there
  field : let s = start.args.bytes.now in
      template_of s
      ≡ require (ltb (get_or s 1 0) 128) Length
      (require (leb (get_or s 1 0) (length s - 2)) Short
      (require (leb (length s - 2) (get_or s 1 0)) (LeftOver (2 + get_or s 1 0))
      (content_of (drop 2 s))))
  field = template-field start.args.bytes.now (omega arith) (omega arith)

pub returns-then-bytes-eq0 : goal.returns-then-bytes-eq0
returns-then-bytes-eq0 c = c.refused.ensures ∙ sym (template-none c.args.bytes.now c.if-bytes-eq0.true)

pub returns-then-bytes : goal.returns-then-bytes
returns-then-bytes c = c.refused-then-bytes.ensures ∙ sym (template-other c.args.bytes.now (omega arith) c.if-bytes.true)

pub returns-then-bytes-eq1 : goal.returns-then-bytes-eq1
returns-then-bytes-eq1 c = c.refused-then-bytes-eq1.ensures ∙ sym (template-tag c.args.bytes.now c.if-bytes-eq1.true c.if-bytes.false)

pub overflow_cast-size : goal.overflow_cast-size
overflow_cast-size c = omega (arith, c.shared_slice_known-3-1.given 1)

pub returns-then-size-ge128 : goal.returns-then-size-ge128
returns-then-size-ge128 c =
    let k = (goal.at.returns-then-size-ge128 c).Else-bytes-eq1 in
    let s = (start k).args.bytes.now in
    c.refused-then-size-ge128.ensures ∙ sym (field k ∙ rw (le-ltb (get_or s 1 0) 128 (omega arith)))

pub returns-then-bytes-size : goal.returns-then-bytes-size
returns-then-bytes-size c =
    let k = (goal.at.returns-then-bytes-size c).Else-bytes-eq1 in
    let s = (start k).args.bytes.now in
    c.refused-then-bytes-size.ensures ∙ sym (field k ∙ rw (lt-ltb (get_or s 1 0) 128 (omega arith), lt-leb (get_or s 1 0) (length s - 2) (omega arith)))

pub returns-then-size-bytes : goal.returns-then-size-bytes
returns-then-size-bytes c =
    let k = (goal.at.returns-then-size-bytes c).Else-bytes-eq1 in
    let s = (start k).args.bytes.now in
    c.refused-then-size-bytes.ensures
    ∙ sym (field k ∙ rw (lt-ltb (get_or s 1 0) 128 (omega arith), le-leb (get_or s 1 0) (length s - 2) (omega arith), lt-leb (length s - 2) (get_or s 1 0) (omega arith)))

pub returns : goal.returns
returns c =
    let k = (goal.at.returns c).Else-bytes-eq1 in
    let s = (start k).args.bytes.now in
    c.content_of.ensures
    ∙ sym (field k ∙ rw (lt-ltb (get_or s 1 0) 128 (omega arith), le-leb (get_or s 1 0) (length s - 2) (omega arith), le-leb (length s - 2) (get_or s 1 0) (omega arith)))
