use Rattle.std.proofs.Common.{◌+◌, ◌*◌}
use Rattle.lc_nodes.proofs.nodes.Nodes.+formula_trees.Given as goal

-- by the levels that are left; a list comes before what is in it
abbrev pub decreases-formula_within : goal.decreases-formula_within
decreases-formula_within l = 2 * l.levels

abbrev pub decreases-formulas_within : goal.decreases-formulas_within
decreases-formulas_within l = 2 * l.levels + 1
