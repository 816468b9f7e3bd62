-- What is found below a part of a table.
use Rattle.std.specs.Prelude.{◌≡◌, ◌<◌, ℕ, slice_get, is_some, true}
use Rattle.std.specs.List.{All}
use Rattle.lc_table.specs.NodeTables.{Table}
use Rattle.lc_table.specs.Tables.{parts, IsTerm}
use Rattle.lc_table.specs.declared.node.TermId.{TermId}
use Rattle.lc_put.specs.declared.deep.Found.{Found}

-- the number of a term or a column expression
abbrev pub IsPart : Table → ℕ → Type 0
IsPart ts k = is_some (slice_get (parts ts) k) ≡ true

-- a number below another one
abbrev pub IsBelow : ℕ → ℕ → Type 0
IsBelow n k = k < n

abbrev pub IsTermBelow : ℕ → TermId → Type 0
IsTermBelow n k = k.0 < n

-- what is found is in the table, below a number
pub record AreFound (ts : Table) (n : ℕ) (found : Found) : Type 0 where
  pub parts_there : All (IsPart ts) found.parts.items
  pub parts_below : All (IsBelow n) found.parts.items
  pub terms_there : All (IsTerm ts) found.terms.items
  pub terms_below : All (IsTermBelow n) found.terms.items
