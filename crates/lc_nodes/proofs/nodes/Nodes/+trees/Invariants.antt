use Rattle.std.proofs.Common.{◌+◌, ◌*◌, vec_len}
use Rattle.lc_nodes.proofs.nodes.Nodes.+trees.Given as goal

-- by the levels that are left; a read and a column expression come before what is in them
abbrev pub decreases-read_within : goal.decreases-read_within
decreases-read_within l = 3 * l.levels + 2

abbrev pub decreases-column_within : goal.decreases-column_within
decreases-column_within l = 3 * l.levels + 1

abbrev pub decreases-column_within-stores : goal.decreases-column_within-stores
decreases-column_within-stores l = vec_len l.chain.stores

abbrev pub decreases-term_within : goal.decreases-term_within
decreases-term_within l = 3 * l.levels
