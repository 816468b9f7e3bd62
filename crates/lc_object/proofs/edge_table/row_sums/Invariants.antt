use Rattle.std.proofs.Common.{◌≡◌, drop, ◌++◌}
use Rattle.lc_term.specs.View.{term_of}
use Rattle.lc_object.specs.View.{columns_of, terms_of}
use Rattle.lc_object.specs.Edges.{row_sums}
use Rattle.lc_object.proofs.edge_table.row_sums.Given as goal

-- the sums so far, with those that are left, are all
abbrev pub invariant-loop-i : goal.invariant-loop-i
invariant-loop-i l =
    terms_of l.sums.items ++ row_sums (columns_of (drop l.i l.columns)) (term_of l.index) (terms_of (drop l.i l.added)) ≡ row_sums (columns_of l.columns) (term_of l.index) (terms_of l.added)
