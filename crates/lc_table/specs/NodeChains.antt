-- Column expressions of a table as chains of stores.
use Rattle.std.specs.Prelude.{◌≡◌, ℕ, ◌≤◌, true, List, [], ◌∷◌}
use Rattle.lc_term.specs.Chains.{is_store}
use Rattle.lc_term.specs.Syntax as S
use Rattle.lc_table.specs.declared.node.ColExprId.{ColExprId}
use Rattle.lc_table.specs.NodeTables.{Table}
use Rattle.lc_table.specs.Tables.{column_in, IsColumn}

-- what a store stores to
abbrev pub stored_to : S.Column → S.Column
stored_to (S.Store c i v) = c
stored_to c = c

-- what is below as many stores as the list has elements
abbrev pub below_stores : S.Column → List ColExprId → S.Column
below_stores c [] = c
below_stores c (k ∷ ks) = below_stores (stored_to c) ks

-- the numbers of the outermost stores of a column expression, from the outside, none of them above n
abbrev pub AreStores : Table → ℕ → S.Column → List ColExprId → Type 0
AreStores ts n c [] = Unit {0}
AreStores ts n c (k ∷ ks) = ((column_in ts k ≡ c) × IsColumn ts k × (k.0 ≤ n) × (is_store c ≡ true)) × AreStores ts n (stored_to c) ks
