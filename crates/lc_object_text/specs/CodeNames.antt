-- How the names of an instruction are read at its place.
use Rattle.std.specs.Prelude.{ℕ, List, Option}

-- Of an array its number and its width, of a local the number of its variable, of a label the number of its point; and
-- how many numbers the operation returns, if the body is of a declared one
pub record CodeNames : Type 0 where
  pub array : List ℕ → Option (ℕ × ℕ)
  pub target : List ℕ → Option ℕ
  pub label : List ℕ → Option ℕ
  pub replies : Option ℕ
