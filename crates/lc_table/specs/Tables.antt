-- The trees of a table of terms.
use Rattle.std.specs.Prelude.{◌≡◌, List, Some, slice_get}
use Rattle.lc_term.specs.Syntax as S
use Rattle.lc_table.specs.declared.node.TermId.{TermId}
use Rattle.lc_table.specs.declared.node.ColExprId.{ColExprId}
use Rattle.lc_table.specs.declared.node.FormulaId.{FormulaId}
use Rattle.lc_table.specs.Nodes as N
use Rattle.lc_table.specs.Nodes.{Part, term, column}
use Rattle.lc_table.specs.NodeTables.{Table, parts_of, formulas_of}
use Rattle.lc_table.specs.Rows.{Extends}

-- the trees of its terms and column expressions, and those of its formulas, each at its number
abbrev pub parts : Table → List Part
parts ts = parts_of ts.terms

abbrev pub formulas : Table → List S.Formula
formulas ts = formulas_of ts.terms ts.formulas

-- the tree of a number
abbrev pub term_in : Table → TermId → S.Term
term_in ts k = N.term_in (parts ts) k

abbrev pub column_in : Table → ColExprId → S.Column
column_in ts k = N.column_in (parts ts) k

abbrev pub formula_in : Table → FormulaId → S.Formula
formula_in ts k = N.formula_in (formulas ts) k

abbrev pub formulas_in : Table → List FormulaId → List S.Formula
formulas_in ts ks = N.formulas_in (formulas ts) ks

-- the number of a term, of a column expression, of a formula, of formulas
abbrev pub IsTerm : Table → TermId → Type 0
IsTerm ts k = N.IsTerm (parts ts) k

abbrev pub IsColumn : Table → ColExprId → Type 0
IsColumn ts k = N.IsColumn (parts ts) k

abbrev pub IsFormula : Table → FormulaId → Type 0
IsFormula ts k = N.IsFormula (formulas ts) k

abbrev pub AreFormulas : Table → List FormulaId → Type 0
AreFormulas ts ks = N.AreFormulas (formulas ts) ks

-- the number of this tree
abbrev pub HasTerm : Table → TermId → S.Term → Type 0
HasTerm ts k t = slice_get (parts ts) k.0 ≡ Some (term t)

abbrev pub HasColumn : Table → ColExprId → S.Column → Type 0
HasColumn ts k c = slice_get (parts ts) k.0 ≡ Some (column c)

abbrev pub HasFormula : Table → FormulaId → S.Formula → Type 0
HasFormula ts k f = slice_get (formulas ts) k.0 ≡ Some f

-- each number keeps its tree
pub record Keeps (old new : Table) : Type 0 where
  pub parts_kept : Extends (parts old) (parts new)
  pub formulas_kept : Extends (formulas old) (formulas new)
