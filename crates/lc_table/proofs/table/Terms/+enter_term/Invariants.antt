use Rattle.std.proofs.Common.{vec_len}
use Rattle.lc_term.specs.Chains.{AreInside}
use Rattle.lc_term.specs.View.{column_of}
use Rattle.lc_term.proofs.Chained.{StandsIn}
use Rattle.lc_table.specs.Tables.{column_in, IsColumn, Keeps}
use Rattle.lc_table.proofs.table.Terms.+enter_term.Given as goal

-- the stores that are left are around what is entered already
abbrev pub invariant-enter_column-stores : goal.invariant-enter_column-stores
invariant-enter_column-stores l =
    Keeps l.fn.self l.self × IsColumn l.self l.entered × AreInside l.column l.chain.stores.items × StandsIn (column_of l.column) (column_in l.self l.entered) l.chain.stores.items

abbrev pub decreases-enter_column-stores : goal.decreases-enter_column-stores
decreases-enter_column-stores l = vec_len l.chain.stores

abbrev pub decreases-enter_column : goal.decreases-enter_column
decreases-enter_column l = goal.size-enter_column l

abbrev pub decreases-enter_term : goal.decreases-enter_term
decreases-enter_term l = goal.size-enter_term l
