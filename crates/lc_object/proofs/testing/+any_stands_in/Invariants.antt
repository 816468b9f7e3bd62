use Rattle.std.proofs.Common.{length}
use Rattle.lc_object.proofs.testing.+any_stands_in.Given as goal

abbrev pub decreases-any_stands_in : goal.decreases-any_stands_in
decreases-any_stands_in l = length l.columns.now
