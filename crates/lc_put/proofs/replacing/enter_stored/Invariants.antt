use Rattle.std.proofs.Common.{map, take}
use Rattle.lc_term.specs.Entries.{entry_of}
use Rattle.lc_table.specs.Tables.{Keeps}
use Rattle.lc_term.proofs.Entries.{IsAbsent}
use Rattle.lc_put.proofs.replacing.enter_stored.Given as goal

-- no entry so far is of the column
abbrev pub invariant-loop-entry : goal.invariant-loop-entry
invariant-loop-entry l = Keeps l.fn.table l.table × IsAbsent l.column.0 (map entry_of (take l.entry-index l.columns))
