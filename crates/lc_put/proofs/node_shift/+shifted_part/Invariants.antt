use Rattle.std.proofs.Common.{◌+◌, ◌*◌, ◌==◌, if◌then◌else◌, vec_len}
use Rattle.lc_term.specs.Replacement.{replace_column}
use Rattle.lc_term.specs.Substitution.{shifting}
use Rattle.lc_table.specs.NodeChains.{below_stores, AreStores}
use Rattle.lc_put.specs.NodeReplacement.{AreReplaced}
use Rattle.lc_table.specs.Tables.{parts, column_in, HasColumn, Keeps}
use Rattle.lc_put.proofs.node_shift.+shifted_part.Given as goal

abbrev pub decreases-shifted_column : goal.decreases-shifted_column
decreases-shifted_column l = 4 * l.column.0 + 1

abbrev pub decreases-shifted_part : goal.decreases-shifted_part
decreases-shifted_part l = 4 * l.part

abbrev pub decreases-shift_below : goal.decreases-shift_below
decreases-shift_below l = 4 * l.term.0 + 1

-- with no level left a term is taken once more
abbrev pub decreases-shifted_term : goal.decreases-shifted_term
decreases-shifted_term l = 4 * l.term.0 + (if l.levels == 0 then 3 else 2)

abbrev pub decreases-shifted_store : goal.decreases-shifted_store
decreases-shifted_store l = 4 * l.store.0

-- what is below the stores that are left is moved already
abbrev pub invariant-shifted_column-stores : goal.invariant-shifted_column-stores
invariant-shifted_column-stores l =
    Keeps l.fn.table l.table × AreReplaced (shifting l.added l.cutoff) (parts l.table) l.done.entries × AreStores l.fn.table l.fn.column.0 (column_in l.fn.table l.fn.column) l.chain.stores.items ×
    HasColumn l.table l.moved (replace_column (shifting l.added l.cutoff) (below_stores (column_in l.fn.table l.fn.column) l.chain.stores.items))

-- what is done is moved
abbrev pub invariant-shift_below-loop-term : goal.invariant-shift_below-loop-term
invariant-shift_below-loop-term l = Keeps l.fn.table l.table × AreReplaced (shifting l.added l.cutoff) (parts l.table) l.done.entries

abbrev pub decreases-shifted_column-stores : goal.decreases-shifted_column-stores
decreases-shifted_column-stores l = vec_len l.chain.stores
