-- The names that a development file declares, as the riders beside the code see them.
use Rattle.std.specs.Prelude.{ℕ, Bool, nat_lt, List, length, Option, Some, None, slice_get}

-- How an operation goes, by its text: by `count` branches; or by choices, each with its name and its number of parameters
pub record Ways : Type 0 where
  pub count : ℕ
  pub choices : List (List ℕ)
  pub parameters : List ℕ

-- it goes by choices, and not by branches
abbrev pub has_choices : Ways → Bool
has_choices ways = nat_lt 0 (length ways.choices)

-- The columns (abstract, then concrete, then auxiliary), and the place of the first that is auxiliary; the operations, and how
-- each goes; the actions, and how many parameters each has
pub record Known : Type 0 where
  pub columns : List (List ℕ)
  pub auxiliaries : ℕ
  pub operations : List (List ℕ)
  pub ways : List Ways
  pub actions : List (List ℕ)
  pub parameters : List ℕ

-- the entry at this place, if there is a place
abbrev pub entry_at : {X : Type 0} → List X → Option ℕ → Option X
entry_at entries None = None
entry_at entries (Some k) = slice_get entries k
