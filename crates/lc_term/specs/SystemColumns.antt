-- The system columns, after the others. They are indexed by client.
use Rattle.std.specs.Prelude.{ℕ, ◌+◌, List, [], ◌∷◌, codes}

-- 0: no call; 1: a call that is not settled; 2: a settled call
abbrev pub pend : ℕ → ℕ
pend first = first

abbrev pub op_column : ℕ → ℕ
op_column first = 1 + first

abbrev pub arg_columns : ℕ → List ℕ
arg_columns first = (2 + first) ∷ (3 + first) ∷ (4 + first) ∷ []

abbrev pub rep_columns : ℕ → List ℕ
rep_columns first = (5 + first) ∷ (6 + first) ∷ (7 + first) ∷ []

abbrev pub noted : ℕ → ℕ
noted first = 8 + first

abbrev pub note_columns : ℕ → List ℕ
note_columns first = (9 + first) ∷ (10 + first) ∷ (11 + first) ∷ []

-- the number of columns, where `first` is the first system column
abbrev pub column_count : ℕ → ℕ
column_count first = 12 + first

-- their names
abbrev pub system_columns : List (List ℕ)
system_columns =
    codes "pend" ∷ codes "op" ∷ codes "arg1" ∷ codes "arg2" ∷ codes "arg3" ∷ codes "rep1" ∷ codes "rep2" ∷ codes "rep3"
    ∷ codes "noted" ∷ codes "note1" ∷ codes "note2" ∷ codes "note3" ∷ []
