-- What columns after stores, as a list, and terms in place of variables make of a term or a formula.
use Rattle.std.specs.Prelude.{ℕ, zero, suc, true, List, map}
use Rattle.lc_base.specs.declared.ids.ColId.{ColId}
use Rattle.lc_term.specs.Replacement.{Replacement, replacing, under_many}
use Rattle.lc_term.specs.Places.{Test, term_passes, column_passes, no_bounds}
use Rattle.lc_term.specs.Said.{term_at}
pub use Rattle.lc_term.specs.Entries.{column_at, entry_of, columns_in}
use Rattle.lc_term.specs.View.{term_of}
use Rattle.lc_term.specs.declared.term.Term.{Term}
use Rattle.lc_term.specs.declared.term.ColExpr.{ColExpr}

-- what is put in for columns and variables by such a list and by terms
abbrev pub telling : List (ColId × ColExpr) → List Term → Replacement
telling columns variables = replacing (columns_in columns) (term_at (map term_of variables))

-- outside quantifiers anything; below them if what is put in has no bound variable
unfoldable pub tellable : List (ColId × ColExpr) → List Term → ℕ → Test
tellable columns variables zero = record { columns = λ c. true; variables = λ k. true; bounds = λ k. true }
tellable columns variables (suc n) = record {
  columns = λ c. column_passes no_bounds (columns_in columns c);
  variables = λ k. term_passes no_bounds (term_at (map term_of variables) k);
  bounds = λ k. true;
}

-- what is put in below n quantifiers
unfoldable pub telling_under : List (ColId × ColExpr) → List Term → ℕ → Replacement
telling_under columns variables n = under_many n (telling columns variables)
