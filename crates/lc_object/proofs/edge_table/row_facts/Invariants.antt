use Rattle.std.proofs.Common.{◌≡◌, drop, ◌++◌}
use Rattle.lc_term.specs.View.{term_of, formulas_of}
use Rattle.lc_object.specs.View.{columns_of, terms_of}
use Rattle.lc_object.specs.Edges.{row_facts}
use Rattle.lc_object.proofs.edge_table.row_facts.Given as goal

-- the facts so far, with those that are left, are all
abbrev pub invariant-loop-i : goal.invariant-loop-i
invariant-loop-i l =
    formulas_of l.facts.items ++ row_facts (columns_of (drop l.i l.columns)) (term_of l.index) (terms_of (drop l.i l.values)) ≡ row_facts (columns_of l.columns) (term_of l.index) (terms_of l.values)
