-- What is put in for parts of a table.
use Rattle.std.specs.Prelude.{◌≡◌, ℕ, Bool, true, false, pos, List, Option, Some, None, slice_get, nat_eq}
use Rattle.std.specs.Map.{lookup}
use Rattle.lc_term.specs.Syntax as S
use Rattle.lc_table.specs.Nodes.{Part, term, column}
use Rattle.lc_table.specs.NodeTables.{Table}
use Rattle.lc_table.specs.Tables.{parts}
use Rattle.lc_term.specs.Places.{Test, term_passes, column_passes}
use Rattle.lc_term.specs.Replacement.{Replacement, replace_term, replace_column}

abbrev pub as_part : Option Part → Part
as_part (Some p) = p
as_part None = term (S.Number (pos 0))

-- the tree at a number, of a term or a column expression
abbrev pub part_in : Table → ℕ → Part
part_in ts k = as_part (slice_get (parts ts) k)

-- each column and variable in a term or a column expression passes
abbrev pub part_passes : Test → Part → Bool
part_passes p (term t) = term_passes p t
part_passes p (column c) = column_passes p c

-- a term or a column expression after a replacement
abbrev pub replaced_part : Replacement → Part → Part
replaced_part r (term t) = term (replace_term r t)
replaced_part r (column c) = column (replace_column r c)

-- whether a formula compares two terms
abbrev pub is_comparison : S.Formula → Bool
is_comparison (S.Le t u) = true
is_comparison (S.Eq t u) = true
is_comparison _ = false

-- what is at each of these numbers is, after the replacement, at the number beside it
abbrev pub AreReplaced : Replacement → List Part → List (ℕ × ℕ) → Type 0
AreReplaced r ps es = (k v : ℕ) → lookup (nat_eq k) es ≡ Some v → (p : Part) × (slice_get ps k ≡ Some p) × (slice_get ps v ≡ Some (replaced_part r p))
