use Rattle.std.proofs.Common.{◌*◌, ◌+◌, vec_len}
use Rattle.lc_term.specs.Chains.{AreInside}
use Rattle.lc_term.specs.View.{column_of}
use Rattle.lc_carry.proofs.Chains.{IsReplacedIn}
use Rattle.lc_carry.specs.Renaming.{column_for, renaming}
use Rattle.lc_carry.proofs.renaming.+renamed_term.Given as goal

-- the stores that are left are around what is renamed already
abbrev pub invariant-renamed_column-stores : goal.invariant-renamed_column-stores
invariant-renamed_column-stores l =
    AreInside l.column l.chain.stores.items × IsReplacedIn (renaming (column_for l.columns)) (column_of l.column) (column_of l.renamed) l.chain.stores.items

abbrev pub decreases-renamed_column-stores : goal.decreases-renamed_column-stores
decreases-renamed_column-stores l = vec_len l.chain.stores

abbrev pub decreases-renamed_column : goal.decreases-renamed_column
decreases-renamed_column l = 2 * goal.size-renamed_column l

abbrev pub decreases-renamed_term : goal.decreases-renamed_term
decreases-renamed_term l = 2 * goal.size-renamed_term l

-- a box comes before what is in it
abbrev pub decreases-boxed_term : goal.decreases-boxed_term
decreases-boxed_term l = 2 * goal.size-boxed_term l + 1
