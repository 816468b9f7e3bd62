-- The parts of the list of conditions, by the numbers of their conditions.
use Rattle.std.specs.Prelude.{◌≡◌, ℕ, suc, ◌+◌, ◌<◌, ◌≤◌, List, [], ◌∷◌, map, length, take, Some, slice_get}
use Rattle.lc_base.specs.Limits.{condition_limit}
use Rattle.lc_term.specs.Lists.{concat_map}
use Rattle.lc_table.specs.NodeTables.{Table}
use Rattle.lc_object.specs.Edges.{edges}
use Rattle.lc_object.specs.EdgeView.{edge_of}
use Rattle.lc_outline.specs.Development.{Development}
use Rattle.lc_cond.specs.Adding.{Adds}
use Rattle.lc_cond.specs.Conditions.{Condition, parts, conditions_in, conditions}
use Rattle.lc_cond.specs.ConditionView.{condition_in, AreConditions}
use Rattle.lc_cond.specs.declared.condition.Condition as C
use Rattle.lc_cond.specs.declared.numbering.Numbering.{Numbering}
use Rattle.lc_cond.specs.declared.numbering.NumberedPart.{NumberedPart}

-- how many conditions come before the part at a place
abbrev pub count_before : Development → ℕ → ℕ
count_before D k = length (concat_map (conditions_in D) (take k (parts D)))

-- these are the numbers of the first conditions of the parts from a place on
abbrev pub AreFirsts : Development → ℕ → List ℕ → Type 0
AreFirsts D k [] = Unit {0}
AreFirsts D k (n ∷ ns) = (n ≡ count_before D k) × AreFirsts D (suc k) ns

-- The numbers of the first conditions of all parts, followed by the number of all conditions.
pub record IsNumbering (D : Development) (n : Numbering) : Type 0 where
  pub edges_are : map edge_of n.edges.items ≡ edges D.object
  pub firsts_are : AreFirsts D 0 n.firsts.items
  pub each : length n.firsts.items ≡ suc (length (parts D))

-- the conditions that a list has from a place on
abbrev pub StandFrom : ℕ → List Condition → List Condition → Type 0
StandFrom n xs cs = (j : ℕ) (x : Condition) → slice_get xs j ≡ Some x → slice_get cs (n + j) ≡ Some x

-- Conditions are added that a list has from a place on, and the one at another place of the list is among them, if there is one.
pub record AddsWith (before : List C.Condition) (ts : Table) (now : List C.Condition) (cs : List Condition) (place first : ℕ) : Type 0 where
  pub some : List Condition
  pub adds : Adds before ts now some
  pub stand : StandFrom first some cs
  pub has : place < length cs → (first ≤ place) × (place < first + length some)
  pub few : first ≤ condition_limit

-- Conditions of a part, in a table: they are in the list from the number of the first on, and the one of this number is among
-- them, if there is one.
pub record IsPartWith (D : Development) (ts : Table) (number : ℕ) (p : NumberedPart) : Type 0 where
  pub are : AreConditions ts p.conditions.items
  pub stand : StandFrom p.first (map (condition_in ts) p.conditions.items) (conditions D)
  pub has : number < length (conditions D) → (p.first ≤ number) × (number < p.first + length p.conditions.items)
