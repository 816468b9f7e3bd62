use Rattle.std.proofs.Common.{◌≤◌}
use Rattle.lc_sexp.specs.Trees.{item_count_of_all}
use Rattle.lc_sexp.specs.Shown.{rest_of}
use Rattle.lc_guess.proofs.object.+push_atoms.Given as goal

abbrev pub decreases-push_atoms : goal.decreases-push_atoms
decreases-push_atoms l = item_count_of_all (rest_of l.formulas)

abbrev pub invariant-items : goal.invariant-items
invariant-items l = item_count_of_all (rest_of l.rest) ≤ item_count_of_all (rest_of l.fn.formulas)

abbrev pub decreases-items : goal.decreases-items
decreases-items l = item_count_of_all (rest_of l.rest)
