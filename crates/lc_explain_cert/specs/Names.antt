-- By which names columns and free variables are shown.
use Rattle.std.specs.Prelude.{ℕ, List, [], ◌∷◌, ◌++◌, Option, Some, None, codes, slice_get}
use Rattle.std.specs.Fmt.{decimal}
use Rattle.lc_outline.specs.ColumnNames.{name_at}
use Rattle.lc_reading.specs.Words.{names_in}
use Rattle.lc_text.specs.Spelling.{Spelled}
use Rattle.lc_explain_cert.specs.declared.names.Names.{Names}

-- a variable that has no name of its own is written as in proofs
abbrev pub or_number : ℕ → Option (List ℕ) → List ℕ
or_number k None = codes "?" ++ decimal k
or_number k (Some []) = codes "?" ++ decimal k
or_number k (Some (b ∷ name)) = b ∷ name

-- variables and columns by these names
abbrev pub named_by : (variables columns : List (List ℕ)) → Spelled
named_by variables columns = record { variable = λ k. or_number k (slice_get variables k); column = name_at columns }

abbrev pub spelled : Names → Spelled
spelled names = named_by (names_in names.variables.items) (names_in names.columns.items)
