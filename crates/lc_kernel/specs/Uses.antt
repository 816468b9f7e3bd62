-- What is known of the variables of terms and formulas, by number.
use Rattle.std.specs.Prelude.{◌≡◌, ℕ, Bool, true, nat_eq}
use Rattle.std.specs.HashSet.{contains}
use Rattle.lc_table.specs.NodeTables.{Table}
use Rattle.lc_table.specs.Tables.{term_in, column_in, formula_in}
use Rattle.lc_table.specs.declared.node.TermId.{TermId}
use Rattle.lc_table.specs.declared.node.ColExprId.{ColExprId}
use Rattle.lc_table.specs.declared.node.FormulaId.{FormulaId}
use Rattle.lc_kernel.specs.Below.{term_below, column_below, formula_below}
use Rattle.lc_kernel.specs.declared.uses.KnownBelow.{KnownBelow}

abbrev pub same_term : TermId → TermId → Bool
same_term a b = nat_eq a.0 b.0

abbrev pub same_column : ColExprId → ColExprId → Bool
same_column a b = nat_eq a.0 b.0

abbrev pub same_formula : FormulaId → FormulaId → Bool
same_formula a b = nat_eq a.0 b.0

-- each tree that is known has its variables below the count
pub record AreBelow (count : ℕ) (ts : Table) (known : KnownBelow) : Type 0 where
  pub terms_below : (k : TermId) → contains same_term known.terms k ≡ true → term_below count (term_in ts k) ≡ true
  pub columns_below : (k : ColExprId) → contains same_column known.columns k ≡ true → column_below count (column_in ts k) ≡ true
  pub formulas_below : (k : FormulaId) → contains same_formula known.formulas k ≡ true → formula_below count (formula_in ts k) ≡ true
