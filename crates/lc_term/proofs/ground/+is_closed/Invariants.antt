use Rattle.std.proofs.Common.{◌≡◌, ◌≤◌}
use Rattle.lc_term.specs.declared.term.ColExpr.{size-ColExpr}
use Rattle.lc_term.specs.Places.{no_bounds, column_passes}
use Rattle.lc_term.specs.View.{column_of}
use Rattle.lc_term.proofs.ground.+is_closed.Given as goal

-- what is left is no deeper, and decides the answer
abbrev pub invariant-is_closed_column-stores : goal.invariant-is_closed_column-stores
invariant-is_closed_column-stores l =
    (size-ColExpr l.rest ≤ size-ColExpr l.column) ×
    (column_passes no_bounds (column_of l.column) ≡ column_passes no_bounds (column_of l.rest))
