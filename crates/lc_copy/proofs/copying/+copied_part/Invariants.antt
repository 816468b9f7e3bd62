use Rattle.std.proofs.Common.{◌+◌, ◌*◌, vec_len}
use Rattle.lc_copy.specs.Copies.{Copies}
use Rattle.lc_table.specs.NodeChains.{below_stores, AreStores}
use Rattle.lc_table.specs.Tables.{column_in, HasColumn, Keeps}
use Rattle.lc_copy.proofs.copying.+copied_part.Given as goal

abbrev pub decreases-copied_column : goal.decreases-copied_column
decreases-copied_column l = 2 * l.column.0 + 1

abbrev pub decreases-copied_part : goal.decreases-copied_part
decreases-copied_part l = 2 * l.part

abbrev pub decreases-copied_term : goal.decreases-copied_term
decreases-copied_term l = 2 * l.term.0 + 1

abbrev pub decreases-copied_store : goal.decreases-copied_store
decreases-copied_store l = 2 * l.store.0

-- what is below the stores that are left is copied already
abbrev pub invariant-copied_column-stores : goal.invariant-copied_column-stores
invariant-copied_column-stores l =
    Keeps l.fn.table l.table × Copies l.other l.table l.copied × AreStores l.other l.fn.column.0 (column_in l.other l.fn.column) l.chain.stores.items ×
    HasColumn l.table l.here (below_stores (column_in l.other l.fn.column) l.chain.stores.items)

abbrev pub decreases-copied_column-stores : goal.decreases-copied_column-stores
decreases-copied_column-stores l = vec_len l.chain.stores
