use Rattle.std.proofs.Common.{◌≡◌, ◌≤◌}
use Rattle.lc_term.specs.State.{state_of, env_of}
use Rattle.lc_term.specs.View.{column_of}
use Rattle.lc_term.specs.declared.term.ColExpr.{size-ColExpr}
use Rattle.lc_look.specs.Computing.{cell, bounds_of}
use Rattle.lc_look.proofs.computing.+number_of.Given as goal

-- what is left is no deeper, and has the cell
abbrev pub invariant-cell_of-stores : goal.invariant-cell_of-stores
invariant-cell_of-stores l =
    (size-ColExpr l.rest ≤ size-ColExpr l.expression) ×
    (cell (state_of l.state) (env_of l.env) (bounds_of l.bounds) (column_of l.expression) l.index ≡ cell (state_of l.state) (env_of l.env) (bounds_of l.bounds) (column_of l.rest) l.index)
