use Rattle.std.proofs.Common.{◌≡◌, ◌≤◌}
use Rattle.lc_term.specs.Equal.{column_eq}
use Rattle.lc_term.specs.View.{column_of}
use Rattle.lc_term.specs.declared.term.ColExpr.{size-ColExpr}
use Rattle.lc_term.proofs.term.+is_same_term.Given as goal

-- what is left is no deeper, and decides the answer
abbrev pub invariant-is_same_column-stores : goal.invariant-is_same_column-stores
invariant-is_same_column-stores l =
    (size-ColExpr l.mine ≤ size-ColExpr l.left) × (size-ColExpr l.other ≤ size-ColExpr l.right) ×
    (column_eq (column_of l.left) (column_of l.right) ≡ column_eq (column_of l.mine) (column_of l.other))
