use Rattle.std.proofs.Common.{◌≡◌}
use Rattle.lc_sexp.specs.Trees.{item_count_of_all}
use Rattle.lc_sexp.specs.Shown.{rest_of}
use Rattle.lc_fill.specs.Points.{names_edge}
use Rattle.lc_fill.proofs.points.names_edge.Given as goal

abbrev pub invariant-items : goal.invariant-items
invariant-items l = names_edge l.edge (rest_of l.rest) ≡ names_edge l.edge (rest_of l.fn.list)

abbrev pub decreases-items : goal.decreases-items
decreases-items l = item_count_of_all (rest_of l.rest)
