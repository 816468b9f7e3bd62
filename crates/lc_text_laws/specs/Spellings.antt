-- How names are printed that a text is read by.
use Rattle.std.specs.Prelude.{◌≡◌, ℕ, false, List, Some}
use Rattle.lc_base.specs.declared.ids.ColId.{ColId}
use Rattle.lc_text.specs.Names.{Names}
use Rattle.lc_text.specs.Spelled.{binder}
use Rattle.lc_text.specs.Spelling.{Spelled}
use Rattle.lc_text.specs.declared.scope.ColumnUse.TheVariants.{Usable}
use Rattle.lc_text.specs.declared.scope.Extra.TheVariants.{BuiltColumns, NumberedVariables}

-- Variables and columns are printed by the names by which they are read, and there are neither variables `?k` nor built columns
pub record IsSpelledSo (names : Names) (by : Spelled) : Type 0 where
  pub variables : (w : List ℕ) (k : ℕ) → names.variable w ≡ Some k → by.variable k ≡ w
  pub columns : (w : List ℕ) (c : ColId) → names.column w ≡ Usable c → by.column c.0 ≡ w
  pub unnumbered : names.allows NumberedVariables ≡ false
  pub unbuilt : names.allows BuiltColumns ≡ false

-- no variable is named as one that is printed of a quantifier
abbrev pub AreUnbound : Names → Type 0
AreUnbound names = (w : List ℕ) (k d : ℕ) → names.variable w ≡ Some k → w ≡ binder d → ⊥
