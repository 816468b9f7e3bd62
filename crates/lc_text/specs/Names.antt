-- How the names of a term or a formula are read at a place of a file.
use Rattle.std.specs.Prelude.{ℕ, Bool, List, Option, Some, None}
use Rattle.lc_text.specs.declared.scope.ColumnUse.{ColumnUse}
use Rattle.lc_text.specs.declared.scope.ColumnUse.TheVariants.{Usable, Undeclared}
use Rattle.lc_text.specs.declared.scope.Extra.{Extra}

-- the number of a free variable's name, the use of a column's, and what is allowed only at some places
pub record Names : Type 0 where
  pub variable : List ℕ → Option ℕ
  pub column : List ℕ → ColumnUse
  pub allows : Extra → Bool

-- the column at this place of those that are declared
abbrev pub column_at : Option ℕ → ColumnUse
column_at (Some k) = Usable (record { 0 = k })
column_at None = Undeclared
