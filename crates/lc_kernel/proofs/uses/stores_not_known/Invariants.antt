use Rattle.lc_table.proofs.Chained.{GoneDown}
use Rattle.lc_kernel.proofs.uses.stores_not_known.Given as goal

-- the stores so far are around the rest
abbrev pub invariant-stores : goal.invariant-stores
invariant-stores l = GoneDown l.terms l.fn.column l.stores.items l.rest

abbrev pub decreases-stores : goal.decreases-stores
decreases-stores l = l.rest.0
