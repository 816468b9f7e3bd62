use Rattle.std.proofs.Common.{◌*◌, ◌+◌, vec_len}
use Rattle.lc_term.specs.Chains.{AreInside}
use Rattle.lc_term.specs.View.{column_of}
use Rattle.lc_term.proofs.Chained.{StandsIn}
use Rattle.lc_term.proofs.term.+copy_term.Given as goal

-- the stores that are left are around the copy
abbrev pub invariant-ColExpr::try_clone-stores : goal.invariant-ColExpr::try_clone-stores
invariant-ColExpr::try_clone-stores l =
    AreInside l.self l.chain.stores.items × StandsIn (column_of l.self) (column_of l.copy) l.chain.stores.items

abbrev pub decreases-ColExpr::try_clone-stores : goal.decreases-ColExpr::try_clone-stores
decreases-ColExpr::try_clone-stores l = vec_len l.chain.stores

abbrev pub decreases-Term::try_clone : goal.decreases-Term::try_clone
decreases-Term::try_clone l = 2 * goal.size-Term::try_clone l

abbrev pub decreases-ColExpr::try_clone : goal.decreases-ColExpr::try_clone
decreases-ColExpr::try_clone l = 2 * goal.size-ColExpr::try_clone l

-- a box comes before what is in it
abbrev pub decreases-boxed_copy : goal.decreases-boxed_copy
decreases-boxed_copy l = 2 * goal.size-boxed_copy l + 1
