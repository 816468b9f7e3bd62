use Rattle.std.proofs.Common.{◌*◌, ◌+◌}
use Rattle.lc_search_model.proofs.evaluation.+truth.Given as goal

-- by the depth that is left; a node comes before its parts
abbrev pub decreases-first_told : goal.decreases-first_told
decreases-first_told l = 2 * l.deep

abbrev pub decreases-node_truth : goal.decreases-node_truth
decreases-node_truth l = 2 * l.deep + 1

abbrev pub decreases-truth : goal.decreases-truth
decreases-truth l = 2 * l.deep
