-- What is to be put into a file.
use Rattle.std.specs.Prelude.{ℕ}
use Rattle.lc_sexp.specs.Trees.{Trees, none}

-- Actions, which come after those of the file; before the item n, what the call of an action has and what is asserted; and what
-- holds of idle clients
pub record Plan : Type 0 where
  pub actions : Trees
  pub calls : ℕ → Trees
  pub asserts : ℕ → Trees
  pub idle : Trees

-- nothing
abbrev pub no_plan : Plan
no_plan = record { actions = none; calls = λ n. none; asserts = λ n. none; idle = none }
