use Rattle.std.proofs.Common.{◌≤◌, ◌-◌, length}
use Rattle.lc_place.proofs.Windows.{IsShown}
use Rattle.lc_place.proofs.excerpt.window_end.Given as goal

abbrev pub invariant-loop-to : goal.invariant-loop-to
invariant-loop-to l = record { behind : l.offset ≤ l.to; within : l.to ≤ length l.bytes; shown : IsShown l.bytes l.offset l.to l.left l.room }

abbrev pub decreases-loop-to : goal.decreases-loop-to
decreases-loop-to l = length l.bytes - l.to
