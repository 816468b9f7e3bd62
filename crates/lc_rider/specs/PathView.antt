-- What the paths of the code stand for, over a table of terms.
use Rattle.std.specs.Prelude.{◌≡◌, ℕ, List, [], ◌∷◌, ◌++◌, map}
use Rattle.lc_term.specs.Lists.{Every}
use Rattle.lc_table.specs.NodeTables.{Table}
use Rattle.lc_put.specs.PutNumbers.{columns_at, AreColumns}
use Rattle.lc_term.specs.Syntax.{Column, Formula}
use Rattle.lc_table.specs.Tables.{formulas_in, AreFormulas}
use Rattle.lc_rider.specs.Paths as S
use Rattle.lc_rider.specs.DutyView.{owed_in, duty_in, AreGoals}
use Rattle.lc_rider.specs.declared.path.Path.{Path}

-- the path whose numbers these are
abbrev pub path_in : Table → Path → S.Path
path_in ts p = record {
  columns = columns_at ts p.columns.items;
  facts = formulas_in ts p.facts.items;
  duties = map (duty_in (formulas_in ts p.facts.items)) (map (owed_in ts) p.marks.items);
}

-- its numbers are those of formulas and of column expressions
pub record IsPath (ts : Table) (p : Path) : Type 0 where
  pub facts : AreFormulas ts p.facts.items
  pub columns : AreColumns ts p.columns.items
  pub goals : AreGoals ts p.marks.items

abbrev pub ArePaths : Table → List Path → Type 0
ArePaths ts ps = Every (IsPath ts) ps

-- it is this path
pub record HasPath (ts : Table) (p : Path) (q : S.Path) : Type 0 where
  pub is : IsPath ts p
  pub path : path_in ts p ≡ q

-- they are these paths
pub record HavePaths (ts : Table) (ps : List Path) (qs : List S.Path) : Type 0 where
  pub are : ArePaths ts ps
  pub paths : map (path_in ts) ps ≡ qs

-- the same path with other columns, and with one more duty
abbrev pub with_columns : S.Path → (ℕ → Column) → S.Path
with_columns p σ = record p { columns = σ }

abbrev pub with_duty : S.Path → S.Owing → ℕ → Formula → S.Path
with_duty p kind rider goal = record p { duties = p.duties ++ record { kind = kind; rider = rider; facts = p.facts; goal = goal } ∷ [] }
