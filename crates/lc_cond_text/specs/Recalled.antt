-- Texts of formulas that are kept, so that each is made once.
use Rattle.std.specs.Prelude.{◌≡◌, ℕ, ◌≤◌, List, length, Option, Some, slice_get, slice_range}
use Rattle.lc_table.specs.declared.node.FormulaId.{FormulaId}
use Rattle.lc_table.specs.NodeTables.{Table}
use Rattle.lc_table.specs.Tables.{formula_in, IsFormula}
use Rattle.lc_text.specs.Spelling.{Spelled}
use Rattle.lc_text.specs.Spelled.{spelled_formula}
use Rattle.lc_cond_text.specs.declared.texts.Place.{Place}
use Rattle.lc_cond_text.specs.declared.texts.FormulaTexts.{FormulaTexts}

-- the text lies at the place
pub record LiesAt (text bytes : List ℕ) (p : Place) : Type 0 where
  pub ordered : p.start ≤ p.end
  pub within : p.end ≤ length bytes
  pub is : slice_range bytes p.start p.end ≡ text

-- each number that has a place is that of a formula, whose text lies there
abbrev pub AreRecalled : (FormulaId → Type 0) → (FormulaId → List ℕ) → List ℕ → List (Option Place) → Type 0
AreRecalled There text bytes places = (k : FormulaId) (p : Place) → slice_get places k.0 ≡ Some (Some p) → There k × LiesAt (text k) bytes p

-- what is recalled of a number is the text of its formula
abbrev pub Recalls : Spelled → Table → FormulaTexts → Type 0
Recalls by ts texts = AreRecalled (IsFormula ts) (λ k. spelled_formula by 0 (formula_in ts k)) texts.bytes.items texts.places.items
