-- What is put in for columns and variables at once, and what of a table is known to have it in.
use Rattle.std.specs.Prelude.{◌≡◌, ℕ, ◌==◌, ◌&&◌, Bool, List, map, pos, Some, slice_get, slice_index_or, ◌⊎◌}
use Rattle.std.specs.Map.{lookup}
use Rattle.lc_term.specs.Syntax as S
use Rattle.lc_term.specs.View.{term_of, column_of}
use Rattle.lc_term.specs.Entries.{columns_in}
use Rattle.lc_term.specs.Said.{term_at}
use Rattle.lc_term.specs.Replacement.{Replacement, replacing, replace, under_many}
use Rattle.lc_put.specs.NodeReplacement.{replaced_part}
use Rattle.lc_table.specs.NodeTables.{Table}
use Rattle.lc_table.specs.Tables.{parts, formulas}
use Rattle.lc_put.specs.declared.put.PutColumns.{PutColumns}
use Rattle.lc_put.specs.declared.put.PutColumns.TheVariants.{Stored, All}
use Rattle.lc_put.specs.declared.put.PutVariables.{PutVariables}
use Rattle.lc_put.specs.declared.put.PutVariables.TheVariants.{Own, Terms}
use Rattle.lc_put.specs.declared.put.Put.{Put}
use Rattle.lc_put.specs.declared.put.Occurrence.{Occurrence}
use Rattle.lc_put.specs.declared.put.ReplacedNodes.{ReplacedNodes}

-- columns in order; 0 in each cell after the last
abbrev pub column_by_number : List S.Column → ℕ → S.Column
column_by_number cs c = slice_index_or cs c (S.Affine (pos 0) (pos 0))

-- what is put in for each column, for each variable
abbrev pub columns_put : PutColumns → ℕ → S.Column
columns_put (Stored ps) = columns_in ps.now
columns_put (All cs) = column_by_number (map column_of cs.now)

abbrev pub variables_put : PutVariables → ℕ → S.Term
variables_put Own = S.Variable
variables_put (Terms ts) = term_at (map term_of ts.now)

abbrev pub replacement_of : Put → Replacement
replacement_of p = replacing (columns_put p.columns) (variables_put p.variables)

-- whether two occurrences are the same
abbrev pub occurrence_eq : Occurrence → Occurrence → Bool
occurrence_eq a b = (a.number == b.number) && (a.depth == b.depth)

-- each tree that is remembered is there, and it is at the number beside it, replaced below as many quantifiers
abbrev pub AreRemembered : {T : Type 0} → (ℕ → T → T) → List T → List (Occurrence × ℕ) → Type 0
AreRemembered {T} replaced ts es =
    (k : Occurrence) (v : ℕ) → lookup (occurrence_eq k) es ≡ Some v → (t : T) × (slice_get ts k.number ≡ Some t) × (slice_get ts v ≡ Some (replaced k.depth t))

-- nothing is remembered beside what was, but it be v of k
abbrev pub Notes : Occurrence → ℕ → List (Occurrence × ℕ) → List (Occurrence × ℕ) → Type 0
Notes k v old new = (q : Occurrence) (w : ℕ) → lookup (occurrence_eq q) new ≡ Some w → (lookup (occurrence_eq q) old ≡ Some w) ⊎ ((q ≡ k) × (w ≡ v))

-- what is remembered is so replaced in this table
pub record Remembers (r : Replacement) (ts : Table) (done : ReplacedNodes) : Type 0 where
  pub parts_done : AreRemembered (λ n. replaced_part (under_many n r)) (parts ts) done.parts.entries
  pub formulas_done : AreRemembered (λ n. replace (under_many n r)) (formulas ts) done.formulas.entries
