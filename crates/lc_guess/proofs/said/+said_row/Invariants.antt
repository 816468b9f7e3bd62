use Rattle.std.proofs.Common.{◌≤◌}
use Rattle.lc_sexp.specs.Trees.{item_count_of_all}
use Rattle.lc_sexp.specs.Shown.{rest_of}
use Rattle.lc_guess.proofs.said.+said_row.Given as goal

abbrev pub decreases-said_row : goal.decreases-said_row
decreases-said_row l = item_count_of_all (rest_of l.list)

abbrev pub invariant-items : goal.invariant-items
invariant-items l = item_count_of_all (rest_of l.rest) ≤ item_count_of_all (rest_of l.fn.list)

abbrev pub decreases-items : goal.decreases-items
decreases-items l = item_count_of_all (rest_of l.rest)
