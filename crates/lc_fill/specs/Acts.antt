-- The names of actions, and the calls that are put in.
use Rattle.std.specs.Prelude.{ℕ, zero, suc, Bool, true, false, codes, List, [], ◌∷◌, ◌++◌, length, if◌then◌else◌}
use Rattle.std.specs.List.{list_any}
use Rattle.lc_sexp.specs.Trees.{Tree, Trees, atom, list, none, ◌▸◌}
use Rattle.lc_reading.specs.Parts.{begins}
use Rattle.lc_reading.specs.Rows.{second_name, all_declared}
use Rattle.lc_reading.specs.Words.{is}
use Rattle.lc_fill.specs.Plan.{Plan}

-- The names of the actions that a file declares; the name of the stand-in for those that are not planned; and what is planned
pub record Acts : Type 0 where
  pub names : List (List ℕ)
  pub stand_in : List ℕ
  pub plan : Plan

-- the name that (action NAME ..) declares
abbrev pub action_name : Tree → List (List ℕ)
action_name t = if begins (codes "action") t then second_name t else []

-- this name, with a dash more as long as it is one of these, and n at most
abbrev pub unused : List (List ℕ) → ℕ → List ℕ → List ℕ
unused names zero w = w
unused names (suc n) w = if list_any (is w) names then unused names n (w ++ codes "-") else w

-- those of an object with these parts
abbrev pub acts_in : Plan → List (List ℕ) → Acts
acts_in plan names = record { names = names; stand_in = unused names (length names) (codes "todo"); plan = plan }

abbrev pub acts_of : Plan → Trees → Acts
acts_of plan ts = acts_in plan (all_declared action_name ts)

-- what is planned as a call; else (NAME), the call of the stand-in, which has no parameters
abbrev pub called : Acts → Trees → Tree
called a none = list (atom a.stand_in ▸ none)
called a (t ▸ ts) = list (t ▸ ts)

abbrev pub is_none : Trees → Bool
is_none none = true
is_none (t ▸ ts) = false

-- the call before the item n, and whether it is that of the stand-in
abbrev pub call_at : Acts → ℕ → Tree
call_at a n = called a (a.plan.calls n)

abbrev pub is_lacking : Acts → ℕ → Bool
is_lacking a n = is_none (a.plan.calls n)

-- (action NAME () (and)): it does nothing
abbrev pub stand_in_of : Acts → Tree
stand_in_of a = list (atom (codes "action") ▸ atom a.stand_in ▸ list none ▸ list (atom (codes "and") ▸ none) ▸ none)
