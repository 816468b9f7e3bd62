use Rattle.std.proofs.Common.{◌≡◌, drop, map, ◌++◌}
use Rattle.lc_term.specs.View.{term_of}
use Rattle.lc_object.specs.View.{columns_of, terms_of}
use Rattle.lc_object.specs.Edges.{row_updates}
use Rattle.lc_object.specs.EdgeView.{update_of}
use Rattle.lc_object.proofs.edge_table.row_updates.Given as goal

-- the updates so far, with those that are left, are all
abbrev pub invariant-loop-i : goal.invariant-loop-i
invariant-loop-i l =
    map update_of l.updates.items ++ row_updates (columns_of (drop l.i l.columns)) (term_of l.index) (terms_of (drop l.i l.values)) ≡ row_updates (columns_of l.columns) (term_of l.index) (terms_of l.values)
