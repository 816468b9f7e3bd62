use Rattle.std.proofs.Common.{◌≡◌, ◌≤◌}
use Rattle.lc_kernel.specs.Below.{column_below}
use Rattle.lc_term.specs.View.{column_of}
use Rattle.lc_term.specs.declared.term.ColExpr.{size-ColExpr}
use Rattle.lc_kernel.proofs.below.+term_below.Given as goal

-- what is left is no deeper, and decides the answer
abbrev pub invariant-column_below-stores : goal.invariant-column_below-stores
invariant-column_below-stores l =
    (size-ColExpr l.rest ≤ size-ColExpr l.fn.column) × (column_below l.count (column_of l.fn.column) ≡ column_below l.count (column_of l.rest))
