use Rattle.std.proofs.Common.{length}
use Rattle.lc_object.proofs.testing.+are_operations.Given as goal

abbrev pub decreases-are_operations : goal.decreases-are_operations
decreases-are_operations l = length l.operations.now
