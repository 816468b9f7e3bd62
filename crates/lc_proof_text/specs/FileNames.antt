-- The names that a formula file declares, and how they are read in it.
use Rattle.std.specs.Prelude.{ℕ, Bool, true, false, List, [], None, if◌then◌else◌, codes}
use Rattle.lc_sexp.specs.Trees.{Tree, atom, list, ◌▸◌}
use Rattle.lc_text.specs.Names.{Names, column_at}
use Rattle.lc_text.specs.declared.scope.Extra.{Extra}
use Rattle.lc_text.specs.declared.scope.Extra.TheVariants.{NumberedVariables}
use Rattle.lc_reading.specs.Listed.{names_among, place_of}
use Rattle.lc_reading.specs.TableView.{listed}
use Rattle.lc_reading.specs.Words.{is}
use Rattle.lc_proof_text.specs.declared.declared.Declared.{Declared as SeenDeclared}

-- the names of variables and of columns, as listed
pub record Declared : Type 0 where
  pub variables : List (List ℕ)
  pub columns : List (List ℕ)

abbrev pub declared_of : SeenDeclared → Declared
declared_of d = record { variables = listed d.variables; columns = listed d.columns }

-- the names that are declared after this word, if a list begins with it
abbrev pub names_behind : List ℕ → Tree → List (List ℕ)
names_behind word (list (atom w ▸ ts)) = if is w word then names_among ts else []
names_behind word _ = []

-- the names that these two sections declare
abbrev pub declared_by : Tree → Tree → Declared
declared_by v c = record { variables = names_behind (codes "vars") v; columns = names_behind (codes "cols") c }

abbrev pub is_numbered : Extra → Bool
is_numbered NumberedVariables = true
is_numbered _ = false

-- Hypotheses and the goal: the names of variables and columns, and no variables `?k`
abbrev pub claim_names : Declared → Names
claim_names d = record {
  variable = place_of d.variables;
  column = λ w. column_at (place_of d.columns w);
  allows = λ extra. if is_numbered extra then false else true;
}

-- The proof: variables `?k`, the names of columns, and none of variables
abbrev pub proof_names : Declared → Names
proof_names d = record {
  variable = λ w. None;
  column = λ w. column_at (place_of d.columns w);
  allows = λ extra. true;
}
