-- `list::put_file` is safe and ends: each step over a record leads on. The invariant: the place is in the file.
use Rattle.std.proofs.Common.{◌≤◌, ◌-◌, length}
use Rattle.list.proofs.put_file.Given as goal

abbrev pub invariant-loop-extent : goal.invariant-loop-extent
invariant-loop-extent l = l.place ≤ length l.file

abbrev pub decreases-loop-extent : goal.decreases-loop-extent
decreases-loop-extent l = length l.file - l.place
