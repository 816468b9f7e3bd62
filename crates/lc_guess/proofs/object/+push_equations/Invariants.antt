use Rattle.std.proofs.Common.{◌≤◌}
use Rattle.lc_sexp.specs.Trees.{item_count_of_all}
use Rattle.lc_sexp.specs.Shown.{rest_of}
use Rattle.lc_guess.proofs.object.+push_equations.Given as goal

abbrev pub decreases-push_equations : goal.decreases-push_equations
decreases-push_equations l = item_count_of_all (rest_of l.formulas)

abbrev pub invariant-items : goal.invariant-items
invariant-items l = item_count_of_all (rest_of l.rest) ≤ item_count_of_all (rest_of l.fn.formulas)

abbrev pub decreases-items : goal.decreases-items
decreases-items l = item_count_of_all (rest_of l.rest)
