use Rattle.std.proofs.Common.{◌≡◌, drop, ◌++◌}
use Rattle.lc_term.specs.View.{term_of}
use Rattle.lc_object.specs.View.{columns_of, terms_of}
use Rattle.lc_object.specs.Edges.{reads}
use Rattle.lc_object.proofs.edge_table.reads.Given as goal

-- the reads so far, with those of the columns that are left, are all
abbrev pub invariant-loop-column : goal.invariant-loop-column
invariant-loop-column l = terms_of l.terms.items ++ reads (columns_of (drop l.column-index l.columns)) (term_of l.index) ≡ reads (columns_of l.columns) (term_of l.index)
