-- What a step of the code finds, formulas being read in a table.
use Rattle.std.specs.Prelude.{List, ◌++◌}
use Rattle.lc_term.specs.Syntax.{Formula}
use Rattle.lc_table.specs.NodeTables.{Table}
use Rattle.lc_table.specs.Tables.{formulas_in, AreFormulas}
use Rattle.lc_table.specs.declared.node.FormulaId.{FormulaId}
use Rattle.lc_kernel.specs.declared.setting.Setting.{Setting}

-- the numbers of its hypotheses
abbrev pub numbers_at : Setting → List FormulaId
numbers_at s = s.given.now ++ s.appended.now

-- its hypotheses
abbrev pub hypotheses_at : Table → Setting → List Formula
hypotheses_at ts s = formulas_in ts (numbers_at s)

-- the table has them
abbrev pub IsSetting : Table → Setting → Type 0
IsSetting ts s = AreFormulas ts (numbers_at s)
