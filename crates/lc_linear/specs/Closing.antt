-- Lists of comparisons that contradict each other.
use Rattle.std.specs.Prelude.{◌≡◌, Bool, true, false, IsTrue, Some, None, ℤ, pos, ◌<ℤ◌, int_le, List, [], ◌∷◌, map}
use Rattle.std.specs.List.{list_all, AllByRecursion}
use Rattle.lc_table.specs.NodeTables.{Table}
use Rattle.lc_term.specs.Syntax as S
use Rattle.lc_term.specs.Syntax.{Term, Number, Add, Subtract, Multiply, Le, Eq}
use Rattle.lc_table.specs.Tables.{formula_in, IsFormula}
use Rattle.lc_table.specs.declared.node.FormulaId.{FormulaId}
use Rattle.lc_linear.specs.Form.{form_of, HasForm}

-- a formula with its multiplier
abbrev pub Entry : Type 0
Entry = S.Formula × ℤ

-- the entries of the code, formulas being read in a table, if all of them are in it
abbrev pub entries_in : Table → List (FormulaId × ℤ) → List Entry
entries_in ts es = map (λ e. (formula_in ts e.0, e.1)) es

abbrev pub AreEntries : Table → List (FormulaId × ℤ) → Type 0
AreEntries ts es = AllByRecursion (λ e. IsFormula ts e.0) es

-- the first side of a comparison less the second; nothing for other formulas
abbrev pub gap : S.Formula → Term
gap (Le t u) = Subtract t u
gap (Eq t u) = Subtract t u
gap _ = Number (pos 0)

-- a sum may take an inequality 0 times or more, an equation any number of times, and no other formula
abbrev pub is_allowed : S.Formula → ℤ → Bool
is_allowed (Le t u) k = int_le (pos 0) k
is_allowed (Eq t u) k = true
is_allowed _ k = false

abbrev pub are_allowed : List Entry → Bool
are_allowed es = list_all (λ e. is_allowed e.0 e.1) es

-- a term, and the multiple of each formula's gap, added from the left
abbrev pub combined_from : Term → List Entry → Term
combined_from t [] = t
combined_from t (e ∷ es) = combined_from (Add t (Multiply e.1 (gap e.0))) es

abbrev pub combined : List Entry → Term
combined es = combined_from (Number (pos 0)) es

-- if all formulas hold their gaps are at most 0, so is each sum of them that is allowed; but this one is a
-- constant above 0, and each number on the way to it fits 128 bits
pub record Closes (es : List Entry) : Type 0 where
  pub allowed : IsTrue (are_allowed es)
  pub fits : HasForm (combined es)
  pub vanishes : (a : Term) → form_of (combined es) (Some a) ≡ pos 0
  pub positive : pos 0 <ℤ form_of (combined es) None
