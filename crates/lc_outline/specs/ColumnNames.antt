-- The names of a development's columns.
use Rattle.std.specs.Prelude.{ℕ, List, [], ◌++◌, map, slice_index_or}
use Rattle.lc_term.specs.SystemColumns.{system_columns}
use Rattle.lc_seq.specs.Specification as Q
use Rattle.lc_object.specs.Syntax as O
use Rattle.lc_outline.specs.Development.{Development}

-- by their numbers
abbrev pub column_names : Development → List (List ℕ)
column_names D =
    map (λ (c : Q.Column). c.name) D.specification.columns ++ (map (λ (c : O.Column). c.name) D.object.concretes ++ (map (λ (c : Q.Column). c.name) D.auxiliaries ++ system_columns))

-- the name at a place, if there is one
abbrev pub name_at : List (List ℕ) → ℕ → List ℕ
name_at names k = slice_index_or names k []
