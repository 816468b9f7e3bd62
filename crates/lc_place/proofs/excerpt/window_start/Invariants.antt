use Rattle.std.proofs.Common.{◌≤◌}
use Rattle.lc_place.proofs.Windows.{IsShown}
use Rattle.lc_place.proofs.excerpt.window_start.Given as goal

abbrev pub invariant-loop-from : goal.invariant-loop-from
invariant-loop-from l = record { before : l.from ≤ l.offset; shown : IsShown l.bytes l.from l.offset l.left 100 }

abbrev pub decreases-loop-from : goal.decreases-loop-from
decreases-loop-from l = l.from
