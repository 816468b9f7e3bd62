use Rattle.std.proofs.Common.{◌+◌, ◌*◌}
use Rattle.lc_sexp.specs.Trees.{item_count, item_count_of_all}
use Rattle.lc_sexp.specs.Shown.{rest_of}
use Rattle.lc_reading.specs.Parts.{tree_of}
use Rattle.lc_text.proofs.+read_term.Given as goal

abbrev pub decreases-term::read_bound_term : goal.decreases-term::read_bound_term
decreases-term::read_bound_term g l = 2 * item_count (tree_of l.part.now)

abbrev pub decreases-term::read_operation : goal.decreases-term::read_operation
decreases-term::read_operation g l = 2 * item_count_of_all (rest_of l.list) + 2

abbrev pub decreases-term::read_sum : goal.decreases-term::read_sum
decreases-term::read_sum g l = 2 * item_count_of_all (rest_of l.list) + 1

abbrev pub decreases-term::read_product : goal.decreases-term::read_product
decreases-term::read_product g l = 2 * item_count_of_all (rest_of l.list) + 1

abbrev pub decreases-term::read_access : goal.decreases-term::read_access
decreases-term::read_access g l = 2 * item_count_of_all (rest_of l.list) + 1

abbrev pub decreases-column::read_bound_column : goal.decreases-column::read_bound_column
decreases-column::read_bound_column g l = 2 * item_count (tree_of l.part.now)

abbrev pub decreases-column::read_built : goal.decreases-column::read_built
decreases-column::read_built g l = 2 * item_count_of_all (rest_of l.list) + 2

abbrev pub decreases-column::read_store : goal.decreases-column::read_store
decreases-column::read_store g l = 2 * item_count_of_all (rest_of l.list) + 1
