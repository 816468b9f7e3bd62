use Rattle.std.proofs.Common.{vec_len}
use Rattle.lc_term.specs.Chains.{AreInside}
use Rattle.lc_nodes.proofs.nodes.Nodes.+enter_term.Given as goal

-- the terms of the stores that are left are inside
abbrev pub invariant-enter_column-stores : goal.invariant-enter_column-stores
invariant-enter_column-stores l = AreInside l.column l.chain.stores.items

abbrev pub decreases-enter_column-stores : goal.decreases-enter_column-stores
decreases-enter_column-stores l = vec_len l.chain.stores

abbrev pub decreases-enter_column : goal.decreases-enter_column
decreases-enter_column l = goal.size-enter_column l

abbrev pub decreases-enter_term : goal.decreases-enter_term
decreases-enter_term l = goal.size-enter_term l
