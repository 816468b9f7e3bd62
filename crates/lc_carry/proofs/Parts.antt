-- A list of conditions that is given part by part.
use Rattle.std.proofs.Common.{◌≡◌, ℕ, ◌+◌, ◌<◌, List, ◌∷◌, length, get_or, drop, map, sym, ap, ◌∙◌}
use Rattle.std.proofs.lemmas.List.{drop_more}
use Rattle.lc_cond.specs.ConditionView.{condition_in}
use Rattle.lc_cond.specs.declared.condition.Condition.{Condition}
use Rattle.lc_table.specs.NodeTables.{Table}

-- the condition at hand comes before those that are left of a part
pub at_hand : (ts : Table) (cs : List Condition) (i : ℕ) (c : Condition) → i < length cs → c ≡ get_or cs i c → map (condition_in ts) (drop i cs) ≡ condition_in ts c ∷ map (condition_in ts) (drop (i + 1) cs)
at_hand ts cs i c lt is = ap (map (condition_in ts)) (drop_more cs i c lt) ∙ ap (λ x. condition_in ts x ∷ map (condition_in ts) (drop (i + 1) cs)) (sym is)
