use Rattle.std.proofs.Common.{◌≡◌, map, take}
use Rattle.lc_action.specs.Telling.{entry_of}
use Rattle.lc_action.proofs.Columns.{IsAbsent}
use Rattle.lc_action.proofs.stored_columns.store.Given as goal

-- no entry so far is of the column, and the columns are as they were
abbrev pub invariant-loop-place : goal.invariant-loop-place
invariant-loop-place l = IsAbsent l.column.0 (map entry_of (take l.place l.columns.items)) × (l.columns.items ≡ l.fn.columns.items)
