-- What is still to be written of terms, while one of their parts is written.
use Rattle.std.specs.Prelude.{◌≡◌, ℕ, Bool, true, false, codes, List, [], ◌∷◌, ◌++◌}
use Rattle.lc_term.specs.Syntax as S
use Rattle.lc_table.specs.declared.node.TermId.{TermId}
use Rattle.lc_table.specs.NodeTables.{Table}
use Rattle.lc_table.specs.Tables.{term_in, column_in, IsTerm, IsColumn}
use Rattle.lc_text.specs.Spelled.{spaced, spelled_term, spelled_column}
use Rattle.lc_text.specs.Spelling.{Spelled}
use Rattle.lc_cond_text.specs.declared.term_text.Waiting.{Waiting}
use Rattle.lc_cond_text.specs.declared.term_text.Waiting.TheVariants.{Term, Spaced, Column, Stored, End}

-- whether a term has no parts
abbrev pub is_simple : S.Term → Bool
is_simple (S.Number n) = true
is_simple (S.Variable k) = true
is_simple (S.Bound k) = true
is_simple _ = false

-- it is a part of the table
abbrev pub IsWaiting : Table → Waiting → Type 0
IsWaiting ts (Term t) = IsTerm ts t
IsWaiting ts (Spaced t) = IsTerm ts t
IsWaiting ts (Column c) = IsColumn ts c
IsWaiting ts (Stored i v) = IsTerm ts i × IsTerm ts v
IsWaiting ts End = Unit {0}

abbrev pub AreWaiting : Table → List Waiting → Type 0
AreWaiting ts [] = Unit {0}
AreWaiting ts (w ∷ ws) = IsWaiting ts w × AreWaiting ts ws

-- what a store is written as, after what is stored to
abbrev pub stored_text : Spelled → ℕ → Table → TermId → TermId → List ℕ
stored_text by d ts i v = spaced (spelled_term by d (term_in ts i)) ++ spaced (spelled_term by d (term_in ts v)) ++ codes ")"

-- what it is written as
abbrev pub part_text : Spelled → ℕ → Table → Waiting → List ℕ
part_text by d ts (Term t) = spelled_term by d (term_in ts t)
part_text by d ts (Spaced t) = spaced (spelled_term by d (term_in ts t))
part_text by d ts (Column c) = spelled_column by d (column_in ts c)
part_text by d ts (Stored i v) = stored_text by d ts i v
part_text by d ts End = codes ")"

-- what a list of what waits is written as, the last first
abbrev pub waiting_text : Spelled → ℕ → Table → List Waiting → List ℕ
waiting_text by d ts [] = []
waiting_text by d ts (w ∷ ws) = waiting_text by d ts ws ++ part_text by d ts w

-- a text more is written, or waits before what waited
pub record GoesOn (by : Spelled) (d : ℕ) (ts : Table) (out : List ℕ) (ws : List Waiting) (text new : List ℕ) (vs : List Waiting) : Type 0 where
  pub waits : AreWaiting ts vs
  pub joined : new ++ waiting_text by d ts vs ≡ out ++ (text ++ waiting_text by d ts ws)
