use Rattle.std.proofs.Common.{◌≡◌, ◌+◌, ◌*◌, take, map}
use Rattle.lc_put.specs.Filling.{Stands}
use Rattle.lc_term.specs.Replacement.{replace, under_many}
use Rattle.lc_table.specs.Tables.{formulas_in, AreFormulas, Keeps}
use Rattle.lc_table.proofs.Listed.{beyond}
use Rattle.lc_put.proofs.replacing.+replaced_formula.Given as goal

abbrev pub decreases-replaced_formula : goal.decreases-replaced_formula
decreases-replaced_formula g l = 4 * l.formula.0 + 3

abbrev pub decreases-replaced_connected : goal.decreases-replaced_connected
decreases-replaced_connected g l = 4 * l.formula.0 + 2

abbrev pub decreases-replaced_node : goal.decreases-replaced_node
decreases-replaced_node g l = 4 * l.formula.0 + 1

abbrev pub decreases-replaced_formulas : goal.decreases-replaced_formulas
decreases-replaced_formulas g l = 4 * beyond l.formulas.now

-- the formulas so far are replaced
abbrev pub invariant-replaced_formulas-loop-formula : goal.invariant-replaced_formulas-loop-formula
invariant-replaced_formulas-loop-formula g l =
    Keeps l.fn.table l.table × Stands g.R.Filled.replacement l.table l.put l.done × AreFormulas l.table l.entered.items
    × (formulas_in l.table l.entered.items ≡ map (replace (under_many l.depth g.R.Filled.replacement)) (formulas_in l.fn.table (take l.formula-index l.formulas)))
