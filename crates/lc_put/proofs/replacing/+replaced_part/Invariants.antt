use Rattle.std.proofs.Common.{◌+◌, ◌*◌, ◌==◌, if◌then◌else◌, vec_len}
use Rattle.lc_term.specs.Replacement.{under_many, replace_column}
use Rattle.lc_put.specs.Filling.{Stands}
use Rattle.lc_table.specs.NodeChains.{below_stores, AreStores}
use Rattle.lc_table.specs.Tables.{column_in, HasColumn, Keeps}
use Rattle.lc_put.proofs.replacing.+replaced_part.Given as goal

abbrev pub decreases-replaced_column : goal.decreases-replaced_column
decreases-replaced_column g l = 4 * l.column.0 + 1

abbrev pub decreases-replaced_part : goal.decreases-replaced_part
decreases-replaced_part g l = 4 * l.part

abbrev pub decreases-replace_below : goal.decreases-replace_below
decreases-replace_below g l = 4 * l.term.0 + 1

-- with no level left a term is taken once more
abbrev pub decreases-replaced_term : goal.decreases-replaced_term
decreases-replaced_term g l = 4 * l.term.0 + (if l.levels == 0 then 3 else 2)

abbrev pub decreases-replaced_store : goal.decreases-replaced_store
decreases-replaced_store g l = 4 * l.store.0

-- what is below the stores that are left is replaced already
abbrev pub invariant-replaced_column-stores : goal.invariant-replaced_column-stores
invariant-replaced_column-stores g l =
    Keeps l.fn.table l.table × Stands g.R.Filled.replacement l.table l.put l.done × AreStores l.fn.table l.fn.column.0 (column_in l.fn.table l.fn.column) l.chain.stores.items ×
    HasColumn l.table l.replaced (replace_column (under_many l.depth g.R.Filled.replacement) (below_stores (column_in l.fn.table l.fn.column) l.chain.stores.items))

-- what is remembered is in the table
abbrev pub invariant-replace_below-loop-term : goal.invariant-replace_below-loop-term
invariant-replace_below-loop-term g l = Keeps l.fn.table l.table × Stands g.R.Filled.replacement l.table l.put l.done

abbrev pub decreases-replaced_column-stores : goal.decreases-replaced_column-stores
decreases-replaced_column-stores g l = vec_len l.chain.stores
