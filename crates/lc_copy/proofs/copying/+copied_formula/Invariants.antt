use Rattle.std.proofs.Common.{◌≡◌, ◌+◌, ◌*◌, take}
use Rattle.lc_table.specs.Tables.{formulas_in, AreFormulas, Keeps}
use Rattle.lc_copy.specs.Copies.{Copies}
use Rattle.lc_table.proofs.Listed.{beyond}
use Rattle.lc_copy.proofs.copying.+copied_formula.Given as goal

abbrev pub decreases-copied_formula : goal.decreases-copied_formula
decreases-copied_formula l = 3 * l.formula.0 + 2

abbrev pub decreases-copied_node : goal.decreases-copied_node
decreases-copied_node l = 3 * l.formula.0 + 1

abbrev pub decreases-copied_formulas : goal.decreases-copied_formulas
decreases-copied_formulas l = 3 * beyond l.formulas.now

-- the formulas so far are entered
abbrev pub invariant-copied_formulas-loop-formula : goal.invariant-copied_formulas-loop-formula
invariant-copied_formulas-loop-formula l =
    Keeps l.fn.table l.table × Copies l.other l.table l.copied × AreFormulas l.table l.entered.items × (formulas_in l.table l.entered.items ≡ formulas_in l.other (take l.formula-index l.formulas))
