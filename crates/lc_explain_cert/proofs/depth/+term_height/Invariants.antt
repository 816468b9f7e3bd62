use Rattle.std.proofs.Common.{◌+◌, ◌*◌}
use Rattle.lc_explain_cert.proofs.depth.+term_height.Given as goal

abbrev pub decreases-term_height : goal.decreases-term_height
decreases-term_height l = 4 * l.levels

abbrev pub decreases-store_height : goal.decreases-store_height
decreases-store_height l = 4 * l.levels + 1

abbrev pub decreases-column_height : goal.decreases-column_height
decreases-column_height l = 4 * l.levels + 2

abbrev pub decreases-parts_height : goal.decreases-parts_height
decreases-parts_height l = 4 * l.levels + 3
