-- `session::port::read_full`: what was read so far is in the room, which keeps its length, and each read that goes on brings a byte.
use Rattle.std.proofs.Common.{length, ◌-◌, ◌≤◌, ◌≡◌}
use Rattle.session.proofs.port.read_full.Given as goal

abbrev pub invariant-loop-done : goal.invariant-loop-done
invariant-loop-done g l = record { inside : l.done ≤ length l.room; same : length l.room ≡ length l.initial.room }

abbrev pub decreases-loop-done : goal.decreases-loop-done
decreases-loop-done g l = length l.initial.room - l.done
