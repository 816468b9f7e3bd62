-- How names are read beside the code of an object.
use Rattle.std.specs.Prelude.{ℕ, ◌+◌, Bool, true, false, codes, List, [], ◌∷◌, length, Option, Some, None, option_map}
use Rattle.lc_reading.specs.Listed.{place_of}
use Rattle.lc_term.specs.SystemColumns.{system_columns}
use Rattle.lc_text.specs.Names.{Names}
use Rattle.lc_text.specs.declared.scope.ColumnUse.{ColumnUse}
use Rattle.lc_text.specs.declared.scope.ColumnUse.TheVariants.{Usable, Undeclared}
use Rattle.lc_text.specs.declared.scope.Extra.{Extra}
use Rattle.lc_text.specs.declared.scope.Extra.TheVariants.{Quantifiers, BuiltColumns, NumberedVariables}

-- the place of a system column among these
abbrev pub system_place : List ℕ → Option ℕ
system_place w = place_of system_columns w

-- the place of a column: the system columns come after the n declared ones
abbrev pub place_or : ℕ → Option ℕ → Option ℕ → Option ℕ
place_or n (Some k) system = Some k
place_or n None system = option_map (λ k. n + k) system

abbrev pub column_place : List (List ℕ) → List ℕ → Option ℕ
column_place columns w = place_or (length columns) (place_of columns w) (system_place w)

-- the column at this place
abbrev pub column_at : Option ℕ → ColumnUse
column_at (Some k) = Usable (record { 0 = k })
column_at None = Undeclared

-- The variables of a formula: the number of clients alone; or the number of clients, a client and these
abbrev pub variable_names : Option (List (List ℕ)) → List (List ℕ)
variable_names None = codes "N" ∷ []
variable_names (Some others) = codes "N" ∷ codes "self" ∷ others

abbrev pub is_quantifiers : Extra → Bool
is_quantifiers Quantifiers = true
is_quantifiers BuiltColumns = false
is_quantifiers NumberedVariables = false

-- All columns may be read. There are quantifiers, and neither built columns nor variables `?k`
abbrev pub beside_names : List (List ℕ) → Option (List (List ℕ)) → Names
beside_names columns others = record {
  variable = place_of (variable_names others);
  column = λ w. column_at (column_place columns w);
  allows = is_quantifiers;
}

-- the same names, with no quantifier allowed
abbrev pub quiet : Names → Names
quiet names = record { variable = names.variable; column = names.column; allows = λ extra. false }
