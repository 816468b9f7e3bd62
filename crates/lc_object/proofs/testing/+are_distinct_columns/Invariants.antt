use Rattle.std.proofs.Common.{length}
use Rattle.lc_object.proofs.testing.+are_distinct_columns.Given as goal

abbrev pub decreases-are_distinct_columns : goal.decreases-are_distinct_columns
decreases-are_distinct_columns l = length l.columns.now
