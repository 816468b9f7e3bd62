-- Tables of names that are referred to, if there are such.
use Rattle.std.specs.Prelude.{ℕ, List, ◌++◌, length, Option, Some, None}
use Rattle.std.specs.Borrow.{Bor}
use Rattle.lc_reading.specs.TableView.{listed}
use Rattle.lc_reading.specs.declared.table.NameTable.{NameTable}

-- these names, followed by those of a table, if there is one
abbrev pub listed_before : List (List ℕ) → Option (Bor NameTable) → List (List ℕ)
listed_before names None = names
listed_before names (Some table) = names ++ listed table.now

-- the names of a table, and of a second one after it, if there is a first
abbrev pub listed_there : Option (Bor NameTable) → Option (Bor NameTable) → Option (List (List ℕ))
listed_there None second = None
listed_there (Some first) second = Some (listed_before (listed first.now) second)

-- how many names a table has
abbrev pub count_there : Option (Bor NameTable) → ℕ
count_there None = 0
count_there (Some table) = length (listed table.now)
