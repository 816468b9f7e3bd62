use Rattle.std.proofs.Common.{◌+◌, ◌*◌}
use Rattle.lc_table.proofs.Listed.{beyond}
use Rattle.lc_nodes.proofs.nodes.Nodes.+take_formula.Given as goal

-- by the numbers there; formulas come before a formula
abbrev pub decreases-take_formula : goal.decreases-take_formula
decreases-take_formula l = 2 * l.formula.0 + 1

abbrev pub decreases-take_formulas : goal.decreases-take_formulas
decreases-take_formulas l = 2 * beyond l.formulas.now
