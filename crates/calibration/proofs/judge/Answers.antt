-- `calibration::judge` meets its contract: the four tests are those of the three numbers, in their order. Assumes nothing.
use mathlib.Core.Path.{◌≡◌, sym, ◌∙◌}
use mathlib.Core.Bool.{true, false}
use borrow.Author.Rules.{rules}
use native.Mathlib.Omega.{arith}
use borrow.Author.Tests.{le-leb, lt-leb}
use lib.IntN.{pos, negsuc}
use lib.Signed.{le_z, lt_z}
use mir.Facts.{to_z-of_z}
use Rattle.refusals.specs.Stages.{require, or_else}
use Rattle.refusals.specs.Ranges.{first_misfit}
use Rattle.calibration.specs.Reading.{numbers}
use Rattle.calibration.proofs.Tested.{read, below-least, from-least, above-greatest, to-greatest}
use Rattle.calibration.proofs.judge.Goals as goal
use Rattle.calibration.proofs.judge.Goals.{Else-raw-ltminus32768, Start, Then-e-gt31, Then-f-gt2047, Then-raw-gt65535, Then-raw-ltminus32768}

-- raw, read back
back : (s : Start) → read s.args.raw ≡ s.args.raw
back s = to_z-of_z s.ranges.raw

pub returns-then-raw-ltminus32768 : goal.returns-then-raw-ltminus32768
unfolding numbers first_misfit or_else require
returns-then-raw-ltminus32768 c =
    let t = (goal.at.returns-then-raw-ltminus32768 c).Then-raw-ltminus32768 in
    let s = (goal.at.Then-raw-ltminus32768 t).Start in
    c.outside.ensures ∙ sym (rw (below-least s.args.raw {m = 32767} (rw (back s) at t.if-raw-ltminus32768.true) (omega arith)))

-- past the first test, and past the second
least : (c : Else-raw-ltminus32768) → le_z (negsuc 32767) c.args.raw ≡ true
least c =
    let s = (goal.at.Else-raw-ltminus32768 c).Start in
    from-least s.args.raw {m = 32767} (rw (back s) at c.if-raw-ltminus32768.false) (omega arith)

greatest : (s : Start) → lt_z (pos 65535) (read s.args.raw) ≡ false → le_z s.args.raw (pos 65535) ≡ true
greatest s h = to-greatest s.args.raw {m = 65535} (rw (back s) at h) (omega arith)

pub returns-then-raw-gt65535 : goal.returns-then-raw-gt65535
unfolding numbers first_misfit or_else require
returns-then-raw-gt65535 c =
    let t = (goal.at.returns-then-raw-gt65535 c).Then-raw-gt65535 in
    let s = (goal.at.Then-raw-gt65535 t).Start in
    c.outside-then-raw-gt65535.ensures ∙ sym (rw (least (goal.at.Then-raw-gt65535 t).Else-raw-ltminus32768, above-greatest s.args.raw {m = 65535} (rw (back s) at t.if-raw-gt65535.true) (omega arith)))

pub returns-then-e-gt31 : goal.returns-then-e-gt31
unfolding numbers first_misfit or_else require
returns-then-e-gt31 c =
    let t = (goal.at.returns-then-e-gt31 c).Then-e-gt31 in
    c.outside-then-e-gt31.ensures ∙ sym (rw (least (goal.at.Then-e-gt31 t).Else-raw-ltminus32768, greatest (goal.at.Then-e-gt31 t).Start (search rules), lt-leb t.args.e 31 (omega arith)))

pub returns-then-f-gt2047 : goal.returns-then-f-gt2047
unfolding numbers first_misfit or_else require
returns-then-f-gt2047 c =
    let t = (goal.at.returns-then-f-gt2047 c).Then-f-gt2047 in
    let s = (goal.at.Then-f-gt2047 t).Start in
    c.outside-then-f-gt2047.ensures
    ∙ sym (rw (least (goal.at.Then-f-gt2047 t).Else-raw-ltminus32768, greatest s (search rules), le-leb s.args.e 31 t.if-e-gt31.false, lt-leb s.args.f 2047 (omega arith)))

pub returns : goal.returns
unfolding numbers first_misfit or_else require
returns c =
    let s = (goal.at.returns c).Start in
    sym (rw (least (goal.at.returns c).Else-raw-ltminus32768, greatest s (search rules), le-leb s.args.e 31 c.if-e-gt31.false, le-leb s.args.f 2047 c.if-f-gt2047.false))
