use Rattle.std.proofs.Common.{◌≡◌, ◌≤◌, IsTrue}
use Rattle.lc_term.specs.Meaning.{outside, column}
use Rattle.lc_term.specs.Places.{known, column_passes}
use Rattle.lc_term.specs.Reached.{CellFits}
use Rattle.lc_term.specs.State.{state_of, env_of, column_count, variable_count}
use Rattle.lc_term.specs.View.{column_of}
use Rattle.lc_term.specs.declared.term.ColExpr.{size-ColExpr}
use Rattle.lc_term.proofs.evaluation.+eval_term.Given as goal

-- what is left is no deeper, may be computed, and has the cell
abbrev pub invariant-read_cell-stores : goal.invariant-read_cell-stores
invariant-read_cell-stores l =
    (size-ColExpr l.rest ≤ size-ColExpr l.expression) ×
    IsTrue (column_passes (known (column_count l.state) (variable_count l.env)) (column_of l.rest)) ×
    (column (state_of l.state) (env_of l.env) outside (column_of l.expression) l.index ≡ column (state_of l.state) (env_of l.env) outside (column_of l.rest) l.index) ×
    (CellFits (state_of l.state) (env_of l.env) (column_of l.expression) l.index → CellFits (state_of l.state) (env_of l.env) (column_of l.rest) l.index) ×
    (CellFits (state_of l.state) (env_of l.env) (column_of l.rest) l.index → CellFits (state_of l.state) (env_of l.env) (column_of l.expression) l.index)
