-- How free variables and columns are spelled in a text.
use Rattle.std.specs.Prelude.{ℕ, List}

-- the text of a free variable and of a column, by their numbers
pub record Spelled : Type 0 where
  pub variable : ℕ → List ℕ
  pub column : ℕ → List ℕ
