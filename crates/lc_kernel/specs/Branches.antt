-- The branches that a step opens, read in a table.
use Rattle.std.specs.Prelude.{ℕ, List, [], ◌∷◌, length, Option, Some, None, slice_get}
use Rattle.lc_table.specs.NodeTables.{Table}
use Rattle.lc_term.specs.Syntax.{Formula}
use Rattle.lc_table.specs.Tables.{formulas_in, AreFormulas}
use Rattle.lc_table.specs.declared.node.FormulaId.{FormulaId}
use Rattle.lc_kernel.specs.Table.{each}
use Rattle.lc_kernel.specs.declared.opened.Branches.{Branches}
use Rattle.lc_kernel.specs.declared.opened.Branches.TheVariants.{Nothing, One, Each}

-- the formulas that each branch appends
abbrev pub branches_in : Table → Branches → List (List Formula)
branches_in ts Nothing = []
branches_in ts (One ks) = formulas_in ts ks.items ∷ []
branches_in ts (Each ks) = each (formulas_in ts ks.items)

-- all of them are numbers of formulas
abbrev pub AreBranches : Table → Branches → Type 0
AreBranches ts Nothing = Unit {0}
AreBranches ts (One ks) = AreFormulas ts ks.items
AreBranches ts (Each ks) = AreFormulas ts ks.items

-- how many branches there are
abbrev pub branch_count : Branches → ℕ
branch_count Nothing = 0
branch_count (One ks) = 1
branch_count (Each ks) = length ks.items

-- a formula alone
abbrev pub alone : Option FormulaId → List FormulaId
alone (Some k) = k ∷ []
alone None = []

-- the numbers of the formulas of branch i
abbrev pub branch_at : Branches → ℕ → List FormulaId
branch_at Nothing i = []
branch_at (One ks) i = ks.items
branch_at (Each ks) i = alone (slice_get ks.items i)
