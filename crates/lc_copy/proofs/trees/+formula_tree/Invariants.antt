use Rattle.std.proofs.Common.{◌≡◌, ◌+◌, ◌*◌, take}
use Rattle.lc_term.specs.View.{formulas_of}
use Rattle.lc_table.specs.Tables.{formulas_in}
use Rattle.lc_table.proofs.Listed.{beyond}
use Rattle.lc_copy.proofs.trees.+formula_tree.Given as goal

abbrev pub decreases-formula_tree : goal.decreases-formula_tree
decreases-formula_tree l = 3 * l.formula.0 + 2

abbrev pub decreases-boxed_formula : goal.decreases-boxed_formula
decreases-boxed_formula l = 3 * l.formula.0 + 3

abbrev pub decreases-formula_trees : goal.decreases-formula_trees
decreases-formula_trees l = 3 * beyond l.formulas.now + 1

-- the formulas so far
abbrev pub invariant-formula_trees-loop-formula : goal.invariant-formula_trees-loop-formula
invariant-formula_trees-loop-formula l = formulas_of l.trees.items ≡ formulas_in l.table (take l.formula-index l.formulas)
