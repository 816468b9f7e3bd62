use Rattle.std.proofs.Common.{◌≡◌, ◌+◌, ◌*◌, drop}
use Rattle.lc_table.specs.Tables.{formulas_in}
use Rattle.lc_table.proofs.Listed.{beyond}
use Rattle.lc_kernel.specs.Below.{all_below}
use Rattle.lc_kernel.specs.Uses.{AreBelow}
use Rattle.lc_kernel.proofs.uses.+is_formula_below.Given as goal

abbrev pub decreases-is_formula_below : goal.decreases-is_formula_below
decreases-is_formula_below l = 3 * l.formula.0 + 2

abbrev pub decreases-is_formula_node_below : goal.decreases-is_formula_node_below
decreases-is_formula_node_below l = 3 * l.formula.0 + 1

abbrev pub decreases-are_formulas_below : goal.decreases-are_formulas_below
decreases-are_formulas_below l = 3 * beyond l.formulas.now

-- what is left passes exactly if all does
abbrev pub invariant-are_formulas_below-loop-formula : goal.invariant-are_formulas_below-loop-formula
invariant-are_formulas_below-loop-formula l =
    AreBelow l.in_use.count l.in_use.terms.now l.known × (all_below l.in_use.count (formulas_in l.in_use.terms.now l.formulas) ≡ all_below l.in_use.count (formulas_in l.in_use.terms.now (drop l.formula-index l.formulas)))
