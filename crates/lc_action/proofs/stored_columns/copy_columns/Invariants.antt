use Rattle.std.proofs.Common.{◌≡◌, map, take}
use Rattle.lc_action.specs.Telling.{entry_of}
use Rattle.lc_action.proofs.stored_columns.copy_columns.Given as goal

-- the copies so far
abbrev pub invariant-loop-entry : goal.invariant-loop-entry
invariant-loop-entry l = map entry_of l.copies.items ≡ map entry_of (take l.entry-index l.columns)
