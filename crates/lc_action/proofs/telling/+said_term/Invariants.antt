use Rattle.std.proofs.Common.{ℕ, ◌*◌, ◌+◌, IsTrue, vec_len}
use Rattle.lc_term.specs.Chains.{AreInside}
use Rattle.lc_term.specs.Places.{column_passes}
use Rattle.lc_term.specs.View.{column_of}
use Rattle.lc_term.proofs.Chained.{ReplacedIn}
use Rattle.lc_action.specs.Telling.{tellable, telling_under}
use Rattle.lc_action.proofs.telling.+said_term.Given as goal

-- the stores that are left are around what is said already
abbrev pub invariant-said_column-stores : goal.invariant-said_column-stores
invariant-said_column-stores l =
    AreInside l.fn.column l.chain.stores.items ×
    ((n : ℕ) → IsTrue (column_passes (tellable l.before.columns.now l.before.variables.now n) (column_of l.fn.column)) →
    ReplacedIn (tellable l.before.columns.now l.before.variables.now n) (telling_under l.before.columns.now l.before.variables.now n) (column_of l.fn.column) (column_of l.said) l.chain.stores.items)

abbrev pub decreases-said_column-stores : goal.decreases-said_column-stores
decreases-said_column-stores l = vec_len l.chain.stores

abbrev pub decreases-said_column : goal.decreases-said_column
decreases-said_column l = 2 * goal.size-said_column l

abbrev pub decreases-said_term : goal.decreases-said_term
decreases-said_term l = 2 * goal.size-said_term l

-- a box comes before what is in it
abbrev pub decreases-boxed_term : goal.decreases-boxed_term
decreases-boxed_term l = 2 * goal.size-boxed_term l + 1
