use Rattle.std.proofs.Common.{◌≡◌, ◌+◌, ◌*◌, vec_len}
use Rattle.lc_term.specs.View.{column_of}
use Rattle.lc_table.specs.NodeChains.{below_stores, AreStores}
use Rattle.lc_table.specs.Tables.{column_in}
use Rattle.lc_copy.proofs.trees.+term_tree.Given as goal

abbrev pub decreases-column_tree : goal.decreases-column_tree
decreases-column_tree l = 2 * l.column.0 + 1

abbrev pub decreases-term_tree : goal.decreases-term_tree
decreases-term_tree l = 2 * l.term.0 + 1

abbrev pub decreases-boxed_term : goal.decreases-boxed_term
decreases-boxed_term l = 2 * l.term.0 + 2

abbrev pub decreases-with_store_tree : goal.decreases-with_store_tree
decreases-with_store_tree l = 2 * l.store.0

-- what is below the stores that are left has its tree already
abbrev pub invariant-column_tree-stores : goal.invariant-column_tree-stores
invariant-column_tree-stores l =
    AreStores l.table l.fn.column.0 (column_in l.table l.fn.column) l.chain.stores.items × (column_of l.tree ≡ below_stores (column_in l.table l.fn.column) l.chain.stores.items)

abbrev pub decreases-column_tree-stores : goal.decreases-column_tree-stores
decreases-column_tree-stores l = vec_len l.chain.stores
