-- Formulas, terms, columns and conditions that the code has by their numbers, and adds to those that it has.
use Rattle.std.specs.Prelude.{◌≡◌, ℕ, List, ◌++◌, map}
use Rattle.lc_base.specs.declared.ids.ColId.{ColId}
use Rattle.lc_put.specs.PutNumbers.{columns_at, AreColumns, terms_in, AreTerms}
use Rattle.lc_term.specs.Syntax.{Term, Column, Formula}
use Rattle.lc_table.specs.NodeTables.{Table}
use Rattle.lc_table.specs.Tables.{formulas_in, AreFormulas}
use Rattle.lc_table.specs.declared.node.TermId.{TermId}
use Rattle.lc_table.specs.declared.node.ColExprId.{ColExprId}
use Rattle.lc_table.specs.declared.node.FormulaId.{FormulaId}
use Rattle.lc_cond.specs.Conditions as S
use Rattle.lc_cond.specs.ConditionView.{condition_in, AreConditions}
use Rattle.lc_cond.specs.declared.condition.Condition.{Condition}

-- the numbers of these formulas
pub record HasFormulas (ts : Table) (ks : List FormulaId) (fs : List Formula) : Type 0 where
  pub are : AreFormulas ts ks
  pub trees : formulas_in ts ks ≡ fs

-- the numbers of these terms
pub record HasTerms (ts : Table) (ks : List TermId) (us : List Term) : Type 0 where
  pub are : AreTerms ts ks
  pub trees : terms_in ts ks ≡ us

-- the numbers of what columns hold
pub record HasColumns (ts : Table) (ps : List (ColId × ColExprId)) (σ : ℕ → Column) : Type 0 where
  pub are : AreColumns ts ps
  pub columns : columns_at ts ps ≡ σ

-- the conditions before, followed by others, which are these in a table
pub record Adds (before : List Condition) (ts : Table) (now : List Condition) (said : List S.Condition) : Type 0 where
  pub added : List Condition
  pub behind : now ≡ before ++ added
  pub are : AreConditions ts added
  pub read : map (condition_in ts) added ≡ said

-- what holds of the formulas of these numbers
abbrev pub Under : Table → List FormulaId → (List Formula → Type 0) → Type 0
Under ts ks P = (fs : List Formula) → HasFormulas ts ks fs → P fs

-- what holds of what these numbers say of columns
abbrev pub Over : Table → List (ColId × ColExprId) → ((ℕ → Column) → Type 0) → Type 0
Over ts ps P = (σ : ℕ → Column) → HasColumns ts ps σ → P σ
