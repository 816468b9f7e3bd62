-- The trees of lists of nodes.
use Rattle.std.specs.Prelude.{List}
use Rattle.lc_term.specs.Syntax as S
use Rattle.lc_table.specs.declared.node.TermNode.{TermNode}
use Rattle.lc_table.specs.declared.node.FormulaNode.{FormulaNode}
use Rattle.lc_table.specs.Nodes.{Part, part_of, PartFits, tree_of, TreeFits}
use Rattle.lc_table.specs.Rows.{trees, IsTable}

-- the nodes of a table
pub record Table : Type 0 where
  pub terms : List TermNode
  pub formulas : List FormulaNode

abbrev pub parts_of : List TermNode → List Part
parts_of ns = trees part_of ns

abbrev pub formulas_of : List TermNode → List FormulaNode → List S.Formula
formulas_of ns ms = trees (tree_of (parts_of ns)) ms

-- what a table keeps
abbrev pub IsPartTable : List TermNode → Type 0
IsPartTable ns = IsTable part_of PartFits ns

abbrev pub IsFormulaTable : List TermNode → List FormulaNode → Type 0
IsFormulaTable ns ms = IsTable (tree_of (parts_of ns)) (TreeFits (parts_of ns)) ms

abbrev pub IsNodeTable : List TermNode → List FormulaNode → Type 0
IsNodeTable ns ms = IsPartTable ns × IsFormulaTable ns ms
