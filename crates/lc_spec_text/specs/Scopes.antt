-- How names are read in a specification.
use Rattle.std.specs.Prelude.{ℕ, suc, false, codes, List, [], ◌∷◌, option_map}
use Rattle.lc_text.specs.Names.{Names, column_at}
use Rattle.lc_reading.specs.Listed.{place_of}

-- the names of columns: those of the specification, and others that the rest of its file declares
pub record Columns : Type 0 where
  pub own : List (List ℕ)
  pub others : List (List ℕ)

-- the client, which is the first variable of a branch; the arguments follow
abbrev pub client : List (List ℕ)
client = codes "self" ∷ []

-- Branches: variables are counted from 1, since 0 is the number of clients, which has no name here. There are neither
-- quantifiers nor built columns nor variables `?k`.
abbrev pub branch_names : List (List ℕ) → List (List ℕ) → Names
branch_names columns variables = record {
  variable = λ w. option_map suc (place_of variables w);
  column = λ w. column_at (place_of columns w);
  allows = λ extra. false;
}
