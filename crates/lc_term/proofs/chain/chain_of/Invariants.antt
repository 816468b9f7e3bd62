use Rattle.std.proofs.Common.{◌≡◌, ◌≤◌}
use Rattle.lc_term.specs.Chains.{with_stores, stores_of, AreInside}
use Rattle.lc_term.specs.View.{column_of}
use Rattle.lc_term.specs.declared.term.ColExpr.{size-ColExpr}
use Rattle.lc_term.proofs.chain.chain_of.Given as goal

-- the stores so far are those around the rest of the chain
abbrev pub invariant-stores : goal.invariant-stores
invariant-stores l =
    (size-ColExpr l.base ≤ size-ColExpr l.column) ×
    (column_of l.column ≡ with_stores (column_of l.base) (stores_of l.stores.items)) ×
    AreInside l.column l.stores.items
