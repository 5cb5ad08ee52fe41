-- `values::put_point` meets its contract: what is left behind one run of channels is what is left before the next, and behind the last there is nothing.
use Rattle.formats.specs.Laid.{owed_none, owed-room}
use native.Mathlib.Omega.{arith}
use Rattle.channels.specs.Channel.{width_of}
use Rattle.points.specs.Points.{channels}
use Rattle.orders.specs.Parts.{many}
use Rattle.values.specs.Parts.{bytes_left}
use Rattle.values.proofs.Lent.{owed-run, bytes-none}
use Rattle.values.proofs.put_point.Goals as goal
use Rattle.values.proofs.put_point.Goals.{After-put_run-before, After-put_run-behind, After-put_run-switch, Start}

pub put_run-before-requires : goal.put_run-before-requires
unfolding many bytes_left channels
put_run-before-requires c = let p = c.requires in (p.0, p.1, p.2, p.3, omega arith, omega arith)

pub put_run-switch-requires : goal.put_run-switch-requires
unfolding many bytes_left channels
put_run-switch-requires c =
    let r = (goal.at.put_run-switch-requires c).After-put_run-before in
    let p = r.requires in
    (p.0, p.1, r.put_run-before.ensures.0, owed-room r.put_run-before.ensures.1 p.3, omega arith, omega arith)

pub put_run-behind-requires : goal.put_run-behind-requires
unfolding many bytes_left channels
put_run-behind-requires c =
    let q = (goal.at.put_run-behind-requires c).After-put_run-switch in
    let r = (goal.at.After-put_run-switch q).After-put_run-before in
    let p = r.requires in
    (p.0, p.1, q.put_run-switch.ensures.0, owed-room (owed-run r.put_run-before.ensures.1 q.put_run-switch.ensures.1) p.3, omega arith, omega arith)

pub returns : goal.returns
unfolding many bytes_left channels
returns c =
    let t = (goal.at.returns c).After-put_run-behind in
    let q = (goal.at.After-put_run-behind t).After-put_run-switch in
    let r = (goal.at.After-put_run-switch q).After-put_run-before in
    let s = (goal.at.After-put_run-before r).Start in
    owed_none (rw (bytes-none (width_of s.args.format) s.args.stride s.args.stored.now s.args.values.now 16 _ (omega (arith, s.requires.0))) at (owed-run (owed-run r.put_run-before.ensures.1 q.put_run-switch.ensures.1) t.put_run-behind.ensures.1))
