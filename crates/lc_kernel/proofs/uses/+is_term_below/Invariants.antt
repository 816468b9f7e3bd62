use Rattle.std.proofs.Common.{◌≡◌, ◌+◌, ◌*◌, max, true, vec_len}
use Rattle.lc_table.specs.NodeChains.{below_stores, AreStores}
use Rattle.lc_table.specs.Tables.{column_in}
use Rattle.lc_kernel.specs.Below.{column_below}
use Rattle.lc_kernel.specs.Uses.{AreBelow}
use Rattle.lc_kernel.proofs.uses.+is_term_below.Given as goal

abbrev pub decreases-is_term_below : goal.decreases-is_term_below
decreases-is_term_below l = 3 * l.term.0 + 2

abbrev pub decreases-is_term_node_below : goal.decreases-is_term_node_below
decreases-is_term_node_below l = 3 * l.term.0 + 1

abbrev pub decreases-is_column_below : goal.decreases-is_column_below
decreases-is_column_below l = 3 * l.column.0 + 2

abbrev pub decreases-is_store_below : goal.decreases-is_store_below
decreases-is_store_below l = 3 * l.store.0 + 1

abbrev pub decreases-are_both_below : goal.decreases-are_both_below
decreases-are_both_below l = 3 * max l.left.0 l.right.0 + 3

-- what is below the stores that are left has its variables below the count
abbrev pub invariant-is_column_below-stores : goal.invariant-is_column_below-stores
invariant-is_column_below-stores l =
    AreBelow l.in_use.count l.in_use.terms.now l.known × AreStores l.in_use.terms.now l.fn.column.0 (column_in l.in_use.terms.now l.fn.column) l.stores.items ×
    (column_below l.in_use.count (below_stores (column_in l.in_use.terms.now l.fn.column) l.stores.items) ≡ true)

abbrev pub decreases-is_column_below-stores : goal.decreases-is_column_below-stores
decreases-is_column_below-stores l = vec_len l.stores
