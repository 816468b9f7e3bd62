-- The line of a condition.
use Rattle.std.specs.Prelude.{ℕ, suc, ◌+◌, length, codes, List, [], ◌∷◌, ◌++◌, Option, Some, None, map}
use Rattle.std.specs.Fmt.{decimal}
use Rattle.lc_text.specs.Spelling.{Spelled}
use Rattle.lc_term.specs.Syntax.{Formula}
use Rattle.lc_text.specs.Spelled.{spaced, spelled_formula}
use Rattle.lc_object.specs.Syntax as O
use Rattle.lc_rider.specs.Paths.{Owing, Pending, Named, Enabled, Observing}
use Rattle.lc_action.specs.Action.{Action}
use Rattle.lc_outline.specs.Development.{Development, all_actions}
use Rattle.lc_outline.specs.ColumnNames.{column_names, name_at}
use Rattle.lc_outline.specs.EdgeWords.{edge_word}
use Rattle.lc_cond.specs.Conditions.{Kind, Init, InitIdle, Entry, First, Owed, Reply, Invariant, NextKind, Guard, ColumnKind, Stable}
use Rattle.lc_cond.specs.Conditions.{Passage, NoPassage, ByEdge, ByAction, Which, Alone, Numbered, OfColumn, Condition, conditions}

abbrev pub duty_word : Owing → List ℕ
duty_word Pending = codes "pend"
duty_word Named = codes "named"
duty_word Enabled = codes "enabled"
duty_word Observing = codes "observing"

abbrev pub kind_word : Kind → List ℕ
kind_word Init = codes "init"
kind_word InitIdle = codes "init-idle"
kind_word Entry = codes "entry"
kind_word First = codes "first"
kind_word (Owed d) = duty_word d
kind_word Reply = codes "reply"
kind_word Invariant = codes "invariant"
kind_word NextKind = codes "next"
kind_word Guard = codes "guard"
kind_word ColumnKind = codes "column"
kind_word Stable = codes "stable"

abbrev pub point_names : Development → List (List ℕ)
point_names d = map (λ (p : O.Point). p.name) d.object.points

abbrev pub action_names : Development → List (List ℕ)
action_names d = map (λ (a : Action). a.name) (all_actions d)

-- what is absent is a hyphen
abbrev pub or_hyphen : {A : Type 0} → (A → List ℕ) → Option A → List ℕ
or_hyphen text None = codes "-"
or_hyphen text (Some x) = text x

abbrev pub passage_text : Development → Passage → List ℕ
passage_text d NoPassage = codes "-"
passage_text d (ByEdge kind) = edge_word kind
passage_text d (ByAction a) = name_at (action_names d) a

abbrev pub which_text : Development → Which → List ℕ
which_text d Alone = codes "-"
which_text d (Numbered k) = decimal k
which_text d (OfColumn c) = name_at (column_names d) c

-- variables by their numbers, columns by their names
abbrev pub spelled : Development → Spelled
spelled d = record { variable = λ k. codes "?" ++ decimal k; column = name_at (column_names d) }

abbrev pub formulas_text : Spelled → List Formula → List ℕ
formulas_text by [] = []
formulas_text by (f ∷ fs) = spaced (spelled_formula by 0 f) ++ formulas_text by fs

-- what the condition says: the end of its line, from (vars V) on, with the space before it
abbrev pub statement_text : Development → Condition → List ℕ
statement_text d c =
    codes " (vars " ++ decimal c.variables ++ codes ") (hyps" ++ formulas_text (spelled d) c.hypotheses ++ codes ") (goal" ++ spaced (spelled_formula (spelled d) 0 c.goal) ++ codes "))"

-- (condition K KIND POINT EDGE PATH NUM (vars V) (hyps F ..) (goal F))
abbrev pub condition_text : Development → ℕ → Condition → List ℕ
condition_text d k c =
    codes "(condition " ++ decimal k
    ++ spaced (kind_word c.kind) ++ spaced (or_hyphen (name_at (point_names d)) c.place.point) ++ spaced (passage_text d c.place.passage)
    ++ spaced (or_hyphen decimal c.place.path) ++ spaced (which_text d c.place.which)
    ++ statement_text d c

abbrev pub lines_from : Development → ℕ → List Condition → List ℕ
lines_from d k [] = []
lines_from d k (c ∷ cs) = condition_text d k c ++ 10 ∷ lines_from d (suc k) cs

-- the line of a count
abbrev pub total_line : ℕ → List ℕ
total_line n = codes "total " ++ decimal n ++ codes "\n"

-- the lines of the remaining conditions, from this number on, and the line with the number of all conditions
abbrev pub text_from : Development → ℕ → List Condition → List ℕ
text_from d k cs = lines_from d k cs ++ total_line (k + length cs)

-- a line for each condition, and that of how many there are
abbrev pub conditions_text : Development → List ℕ
conditions_text d = text_from d 0 (conditions d)
