use Rattle.std.proofs.Common.{length}
use Rattle.lc_seq.proofs.resolving.+names_differ.Given as goal

abbrev pub decreases-names_differ : goal.decreases-names_differ
decreases-names_differ l = length l.operations.now
