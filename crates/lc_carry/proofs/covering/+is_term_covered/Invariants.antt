use Rattle.std.proofs.Common.{◌≡◌, ◌≤◌}
use Rattle.lc_term.specs.Places.{column_passes}
use Rattle.lc_term.specs.View.{column_of}
use Rattle.lc_term.specs.declared.term.ColExpr.{size-ColExpr}
use Rattle.lc_carry.specs.Renaming.{column_for, covered}
use Rattle.lc_carry.proofs.covering.+is_term_covered.Given as goal

-- what is left is no deeper, and decides the answer
abbrev pub invariant-is_column_covered-stores : goal.invariant-is_column_covered-stores
invariant-is_column_covered-stores l =
    (size-ColExpr l.rest ≤ size-ColExpr l.fn.column)
    × (column_passes (covered (column_for l.columns)) (column_of l.fn.column) ≡ column_passes (covered (column_for l.columns)) (column_of l.rest))
