-- What is left of the list of conditions, which is given part by part.
use Rattle.std.specs.Prelude.{◌≡◌, ℕ, suc, ◌+◌, List, [], ◌++◌, map, drop, length, Vec, Option, Some, None}
use Rattle.std.specs.Global.{Global}
use Rattle.lc_term.specs.Lists.{concat_map}
use Rattle.lc_table.specs.NodeTables.{Table}
use Rattle.lc_object.specs.EdgeView.{edge_of}
use Rattle.lc_outline.specs.Development.{Development}
use Rattle.lc_cond.specs.Conditions as S
use Rattle.lc_cond.specs.Conditions.{conditions_in}
use Rattle.lc_cond.specs.ConditionView.{condition_in, AreConditions}
use Rattle.lc_cond.specs.PartView.{parts_along}
use Rattle.lc_cond.specs.declared.condition.Condition.{Condition}
use Rattle.lc_cond.specs.declared.stream.ConditionStream.{ConditionStream}

-- the parts that were not given
abbrev pub parts_behind : Development → ConditionStream → List S.Part
parts_behind d s = drop s.place (parts_along d (map edge_of s.edges.items))

-- how many they are
abbrev pub parts_left : Development → ConditionStream → ℕ
parts_left d s = length (parts_behind d s)

-- the conditions that were not given
abbrev pub conditions_left : Development → ConditionStream → List S.Condition
conditions_left d s = concat_map (conditions_in d) (parts_behind d s)

-- the number of the first of them
abbrev pub next_number : ConditionStream → ℕ
next_number s = s.given

-- what is left before is these conditions, and then what is left afterwards
pub record IsPart (d : Development) (ts : Table) (before after : ConditionStream) (cs : List Condition) : Type 0 where
  pub are : AreConditions ts cs
  pub left : conditions_left d before ≡ map (condition_in ts) cs ++ conditions_left d after
  pub fewer : suc (parts_left d after) ≡ parts_left d before
  pub number : next_number after ≡ next_number before + length cs

-- nothing is left
pub record IsEnd (d : Development) (before after : ConditionStream) : Type 0 where
  pub nothing : conditions_left d before ≡ []
  pub none : parts_left d before ≡ 0
  pub same : after ≡ before

abbrev pub IsNextPart : Development → Table → ConditionStream → ConditionStream → Option (Vec Condition Global) → Type 0
IsNextPart d ts before after None = IsEnd d before after
IsNextPart d ts before after (Some cs) = IsPart d ts before after cs.items
