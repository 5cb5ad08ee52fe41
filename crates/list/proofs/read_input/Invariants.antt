-- `list::read_input` meets its contract: what is read stands behind what was read, and never reaches past the file's end. The invariant: so many bytes are in the file.
use Rattle.std.proofs.Common.{length, ◌-◌, ◌≡◌, ◌≤◌}
use Rattle.list.proofs.read_input.Given as goal

abbrev pub invariant-loop-read : goal.invariant-loop-read
invariant-loop-read g l = (l.read ≤ length l.file) × (length l.file ≡ length l.initial.file)

abbrev pub decreases-loop-read : goal.decreases-loop-read
decreases-loop-read g l = length l.initial.file - l.read
