-- What clauses see of a table of names.
use Rattle.std.specs.Prelude.{ℕ, List}
use Rattle.lc_reading.specs.Entries.{names_at}
use Rattle.lc_reading.specs.declared.table.NameTable.{NameTable}

-- the names of a table, in their order
abbrev pub listed : NameTable → List (List ℕ)
listed table = names_at table.places.entries table.numbers.items
