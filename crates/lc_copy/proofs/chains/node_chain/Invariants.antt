use Rattle.lc_table.proofs.Chained.{GoneDown}
use Rattle.lc_copy.proofs.chains.node_chain.Given as goal

-- the stores so far are around the base
abbrev pub invariant-stores : goal.invariant-stores
invariant-stores l = GoneDown l.table l.fn.column l.stores.items l.base

abbrev pub decreases-stores : goal.decreases-stores
decreases-stores l = l.base.0
