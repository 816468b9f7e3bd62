use Rattle.std.proofs.Common.{map, take}
use Rattle.lc_term.specs.Entries.{entry_of}
use Rattle.lc_term.proofs.Entries.{IsAbsent}
use Rattle.lc_put.proofs.replacing.is_absent.Given as goal

-- no entry so far is of the column
abbrev pub invariant-loop-entry : goal.invariant-loop-entry
invariant-loop-entry l = IsAbsent l.column.0 (map entry_of (take l.entry-index l.columns))
