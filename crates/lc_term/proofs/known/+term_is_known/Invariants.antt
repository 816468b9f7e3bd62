use Rattle.std.proofs.Common.{◌≡◌, ◌≤◌}
use Rattle.lc_term.specs.Places.{known, column_passes}
use Rattle.lc_term.specs.View.{column_of}
use Rattle.lc_term.specs.declared.term.ColExpr.{size-ColExpr}
use Rattle.lc_term.proofs.known.+term_is_known.Given as goal

-- what is left is no deeper, and decides the answer
abbrev pub invariant-column_is_known-stores : goal.invariant-column_is_known-stores
invariant-column_is_known-stores l =
    (size-ColExpr l.rest ≤ size-ColExpr l.fn.column) ×
    (column_passes (known l.columns l.variables) (column_of l.fn.column) ≡ column_passes (known l.columns l.variables) (column_of l.rest))
