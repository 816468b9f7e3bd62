use Rattle.std.proofs.Common.{◌≡◌, take, map}
use Rattle.lc_term.specs.Entries.{entry_of}
use Rattle.lc_put.specs.PutNumbers.{entry_in, AreColumns}
use Rattle.lc_table.specs.Tables.{Keeps}
use Rattle.lc_put.proofs.put_numbers.enter_columns.Given as goal

-- the columns so far are entered
abbrev pub invariant-loop-entry : goal.invariant-loop-entry
invariant-loop-entry l = Keeps l.fn.table l.table × AreColumns l.table l.entered.items × (map (entry_in l.table) l.entered.items ≡ map entry_of (take l.entry-index l.columns))
