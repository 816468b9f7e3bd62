-- Column expressions and terms of a table, by number, as what is put in.
use Rattle.std.specs.Prelude.{ℕ, List, map}
use Rattle.lc_base.specs.declared.ids.ColId.{ColId}
use Rattle.lc_term.specs.Syntax as S
use Rattle.lc_table.specs.declared.node.TermId.{TermId}
use Rattle.lc_table.specs.declared.node.ColExprId.{ColExprId}
use Rattle.lc_term.specs.Lists.{Every}
use Rattle.lc_table.specs.NodeTables.{Table}
use Rattle.lc_term.specs.Entries.{column_at}
use Rattle.lc_term.specs.Replacement.{Replacement, replacing}
use Rattle.lc_term.specs.Said.{term_at}
use Rattle.lc_table.specs.Tables.{term_in, column_in, IsTerm, IsColumn}

-- a column and what a number beside it stands for
abbrev pub entry_in : Table → ColId × ColExprId → ℕ × S.Column
entry_in ts p = (p.0.0, column_in ts p.1)

-- what each column becomes: what the list has for it first, or the column itself, if the list has nothing
abbrev pub columns_at : Table → List (ColId × ColExprId) → ℕ → S.Column
columns_at ts ps = column_at (map (entry_in ts) ps)

-- each number is that of a column expression
abbrev pub AreColumns : Table → List (ColId × ColExprId) → Type 0
AreColumns ts ps = Every (λ (p : ColId × ColExprId). IsColumn ts p.1) ps

-- the terms of numbers
abbrev pub terms_in : Table → List TermId → List S.Term
terms_in ts ks = map (term_in ts) ks

-- each number is that of a term
abbrev pub AreTerms : Table → List TermId → Type 0
AreTerms ts ks = Every (IsTerm ts) ks

-- what each column becomes, and the terms in order for the variables; 0 for a variable after the last
abbrev pub replacement_at : Table → List (ColId × ColExprId) → List TermId → Replacement
replacement_at ts ps ks = replacing (columns_at ts ps) (term_at (terms_in ts ks))
