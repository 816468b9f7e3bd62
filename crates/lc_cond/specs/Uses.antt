-- Conditions that use no variables but those that they count.
use Rattle.std.specs.Prelude.{IsTrue}
use Rattle.lc_term.specs.Lists.{Every}
use Rattle.lc_kernel.specs.Below.{all_below, formula_below}
use Rattle.lc_outline.specs.Development.{Development}
use Rattle.lc_cond.specs.Conditions.{Condition, conditions}

-- the free variables of its hypotheses and of its goal are below its count
abbrev pub UsesItsVariables : Condition → Type 0
UsesItsVariables c = IsTrue (all_below c.variables c.hypotheses) × IsTrue (formula_below c.variables c.goal)

-- each condition of a development does so
abbrev pub AllUseTheirVariables : Development → Type 0
AllUseTheirVariables D = Every UsesItsVariables (conditions D)
