use Rattle.std.proofs.Common.{ℕ, IsTrue, vec_len}
use Rattle.lc_term.specs.Chains.{AreInside}
use Rattle.lc_term.specs.Counter.{HasCounted}
use Rattle.lc_term.specs.Places.{column_passes}
use Rattle.lc_term.specs.Replacement.{under_many}
use Rattle.lc_term.specs.View.{column_of}
use Rattle.lc_term.proofs.Chained.{ReplacedIn}
use Rattle.lc_term.proofs.replace.+replaced_term.Given as goal

-- the stores that are left are around what is replaced already
abbrev pub invariant-replaced_column-stores : goal.invariant-replaced_column-stores
invariant-replaced_column-stores g l =
    AreInside l.column l.chain.stores.items ×
    ((n : ℕ) → HasCounted l.depth n → IsTrue (column_passes (g.R.Replacing.fits l.put n) (column_of l.column)) →
    ReplacedIn (g.R.Replacing.fits l.put n) (under_many n (g.R.Replacing.replacement l.put)) (column_of l.column) (column_of l.replaced) l.chain.stores.items)

abbrev pub decreases-replaced_column-stores : goal.decreases-replaced_column-stores
decreases-replaced_column-stores g l = vec_len l.chain.stores

abbrev pub decreases-replaced_column : goal.decreases-replaced_column
decreases-replaced_column g l = goal.size-replaced_column g l

abbrev pub decreases-replaced_term : goal.decreases-replaced_term
decreases-replaced_term g l = goal.size-replaced_term g l
