-- Columns by a list of entries.
use Rattle.std.specs.Prelude.{ℕ, ◌==◌, if◌then◌else◌, List, [], ◌∷◌, map}
use Rattle.lc_base.specs.declared.ids.ColId.{ColId}
use Rattle.lc_term.specs.Syntax as S
use Rattle.lc_term.specs.View.{column_of}
use Rattle.lc_term.specs.declared.term.ColExpr.{ColExpr}

-- what a column becomes: what the list has for it first, or the column itself, if the list has nothing
abbrev pub column_at : List (ℕ × S.Column) → ℕ → S.Column
column_at [] c = S.Base c
column_at (p ∷ ps) c = if p.0 == c then p.1 else column_at ps c

abbrev pub entry_of : ColId × ColExpr → ℕ × S.Column
entry_of p = (p.0.0, column_of p.1)

-- the columns that a list of the code stands for
abbrev pub columns_in : List (ColId × ColExpr) → ℕ → S.Column
columns_in ps = column_at (map entry_of ps)
